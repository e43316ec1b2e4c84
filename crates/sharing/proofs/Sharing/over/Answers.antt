use Rattle.std.proofs.Common.{sym, arith}
use Rattle.sharing.proofs.Fairness.{running_laws}
use Rattle.sharing.proofs.Sharing.over.Goals as goal

pub invariant_of-result : goal.invariant_of-result
invariant_of-result c = record {
  bounded = omega arith;
  light = omega arith;
  some = omega arith;
  within = omega arith;
  shared = sym (running_laws.starts c.args.energy c.args.all);
}
