-- What is gained over a whole span is its figures. Assumes nothing.
use Rattle.std.proofs.Common.{◌≡◌, ℕ, ◌+◌, ◌<◌, ◌≤◌, List, length, arith}
use Rattle.sharing.specs.Shares.{before, figure, weighed, total, passed, gained}
use Rattle.sharing.proofs.Sums.{before_le}
use Rattle.sharing.proofs.Fairness.{figure_is}

-- of a whole span nothing is cut
passed_within : (ws : List ℕ) (t : ℕ) → t ≤ length ws → passed (total ws) 0 ws t ≡ before (weighed ws) t
passed_within ws t h = omega (arith, before_le (weighed ws) t (length ws) h)

pub gained_is : (e : ℕ) (ws : List ℕ) (t : ℕ) → t < length ws → gained e (total ws) 0 ws t ≡ figure e (weighed ws) (length ws) t
gained_is e ws t h =
    let next = passed_within ws (t + 1) (omega arith) in
    let here = passed_within ws t (omega arith) in
    let f = figure_is e (weighed ws) (length ws) t in
    cc
