use Rattle.std.proofs.Common.{◌≡◌, ℕ, ◌<◌, ◌≤◌, length, drop, get_or}
use Rattle.sharing.specs.Shares.{passed, gained}
use Rattle.sharing.proofs.Sharing.write_figures.Given as goal

abbrev pub invariant-loop-figure : goal.invariant-loop-figure
invariant-loop-figure l = record {
  energy : l.self.energy ≡ l.fn.self.energy;
  all : l.self.all ≡ l.fn.self.all;
  behind : l.self.behind ≡ passed l.fn.self.all l.fn.self.behind l.fn.weights l.figure-index;
  rest : l.weights.rest.now ≡ drop l.figure-index l.fn.weights;
  weighed : l.figure-index ≤ length l.fn.weights;
  written : (k : ℕ) → k < l.figure-index → get_or l.figures k 0 ≡ gained l.fn.self.energy l.fn.self.all l.fn.self.behind l.fn.weights k;
  further : (k : ℕ) → l.figure-index ≤ k → get_or l.figures k 0 ≡ get_or l.initial.figures k 0;
}
