use Rattle.std.proofs.Common.{sym}
use Rattle.book.specs.Books.{setup, contents}
use Rattle.span_rules.proofs.Steps.{tracked}
use Rattle.judgements.specs.Judgements.{meaning}
use Rattle.curves.proofs.Spans.{curve_written, within_days}
use Rattle.curves.proofs.curve.Goals as goal

pub returns : goal.returns
returns g c =
    let at = c.args.metered.now.at in let u = setup at.book.now in let w = c.write_curve.ensures in (
      sym c.in_ok-check_curve.ensures.value,
      record {
        past = w.past;
        told = λ h told.
            let t = tracked u h (contents at.book.now) told at.site at.dial in
            (c.index_days.ensures (within_days u.days _ t), curve_written (meaning g.S.ProfileSource.weighs c.args.metered.now) u.days _ _ t w);
      },
    )
