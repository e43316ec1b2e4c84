use Rattle.std.proofs.Common.{arith}
use Rattle.sharing.specs.Shares.{running_share}
use Rattle.sharing.proofs.Fairness.{running_laws, at_most_all}
use Rattle.sharing.proofs.running.Goals as goal

pub overflow_cast-result : goal.overflow_cast-result
unfolding running_share
overflow_cast-result c = grind (arith, at_most_all running_laws c.args.energy c.args.all c.args.behind c.requires.some c.requires.within)

pub returns : goal.returns
unfolding running_share
returns c = cc
