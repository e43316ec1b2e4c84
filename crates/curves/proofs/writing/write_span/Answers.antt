use Rattle.std.proofs.Common.{arith}
use Rattle.curves.proofs.Spans.{span_written_at}
use Rattle.curves.proofs.writing.write_span.Goals as goal

pub returns : goal.returns
returns g c =
    let long = c.judge-judgement.array_long in let w = c.half_hours.ensures in let f = c.half_hours-2.ensures in
    span_written_at _ c.args.span.from c.args.span.to c.args.span.energy _ _ _ _ _ _ _ c.judge-judgement.result w.0 w.1 f.0 f.1 c.requires.forward (omega arith) (omega arith)
    (c.judge-judgement.ensures c.requires.forward c.requires.few c.requires.covered) c.share_out.auto.figures c.share_out.ensures
