use Rattle.std.proofs.Common.{length, arith, sym, ◌∙◌}
use Rattle.std.proofs.lemmas.Option.{cond_some}
use Rattle.sharing.specs.Shares.{weighed}
use Rattle.sharing.proofs.Fairness.{running_laws, fair}
use Rattle.sharing.proofs.Gains.{gained_is}
use Rattle.sharing.proofs.share.Goals as goal

pub returns-clause-figures : goal.returns-clause-figures
returns-clause-figures c =
    let ws = c.args.weights.now in
    let all = (cond_some _ _ _ (sym c.in_ok-all.ensures)).1 in
    let o = c.in_ok-over.ensures in
    ((λ t h. c.write_figures.ensures.0 t h (omega arith) ∙ (cc (gained_is c.args.energy ws t h))), c.write_figures.ensures.1)

pub returns-clause-fair : goal.returns-clause-fair
returns-clause-fair c =
    let ws = c.args.weights.now in
    let all = (cond_some _ _ _ (sym c.in_ok-all.ensures)).1 in
    fair running_laws c.args.energy (weighed ws) (length ws) (omega (arith, c.in_ok-over.ensures))
