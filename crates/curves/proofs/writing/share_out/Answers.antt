use Rattle.std.proofs.Common.{◌∙◌, arith}
use Rattle.sharing.proofs.Gains.{gained_is}
use Rattle.curves.proofs.writing.share_out.Goals as goal

pub returns-in-Some : goal.returns-in-Some
returns-in-Some c = λ small some light whole i lt.
    let o = c.in-Some.ensures in
    c.write_figures.ensures.0 i lt (omega arith) ∙ (cc (gained_is c.args.energy c.args.weights.now i lt))
