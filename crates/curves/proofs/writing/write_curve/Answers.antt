use Rattle.std.proofs.Common.{◌≡◌, ℕ, ◌+◌, sym, ◌∙◌, subst, arith}
use Rattle.book.specs.Books.{setup}
use Rattle.judgements.specs.Judgements.{meaning}
use Rattle.curves.specs.Writing.{SpansWritten}
use Rattle.curves.proofs.Spans.{spans_same, spans_more}
use Rattle.curves.proofs.writing.write_curve.Goals as goal
use Rattle.curves.proofs.writing.write_curve.Goals.{in-Some, in_default}

pub loop-day-preserved : goal.loop-day-preserved
loop-day-preserved g c =
    let b = c.args.metered.now.at.book.now in
    let x = meaning g.S.ProfileSource.weighs c.args.metered.now in
    let old = c.clear.new.figures in let n = c.loop-day.day in
    elim c.match-span_beginning.branch [
      | in-Some w ↦ subst (SpansWritten x (setup b).days (n + 1) old) (sym w.figures-is) (spans_more x (setup b).days n w.in-Some.span old c.loop-day.figures _ w.in-Some.ensures w.write_span.ensures c.loop-day.invariant)
      | in_default w ↦ subst (SpansWritten x (setup b).days (n + 1) old) (sym w.figures-is) (spans_same x (setup b).days n old c.loop-day.figures w.in_default.ensures c.loop-day.invariant)
    ]

pub returns : goal.returns
returns g c =
    let b = c.args.metered.now.at.book.now in
    let x = meaning g.S.ProfileSource.weighs c.args.metered.now in
    let end : c.loop-day.day ≡ (setup b).days = omega arith in
    let all = subst (λ (n : ℕ). SpansWritten x (setup b).days n c.clear.new.figures c.loop-day.figures) end c.loop-day.invariant in
    record { in_spans = all.in_spans; elsewhere = all.elsewhere; past = λ t le. all.past t le ∙ c.clear.ensures.other t (omega (arith, c.half_hours_of.ensures)) }
