use Rattle.std.proofs.Common.{◌+◌, ◌*◌, ◌≤◌, length}
use Rattle.judgements.specs.Judgements.{WeighedInto}
use Rattle.judgements.proofs.weigh.Given as goal

abbrev pub invariant-loop-i : goal.invariant-loop-i
invariant-loop-i g l = record {
  weighed : l.sub_profile ≤ 7 → l.first + length l.fn.weights ≤ g.S.ProfileSource.covers l.source → WeighedInto (g.S.ProfileSource.weighs l.source l.sub_profile) l.first l.i l.weights l.sum;
  light : l.sum ≤ 1000000 * l.i;
}
