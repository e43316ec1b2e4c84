-- Sums over the places before t. Assumes nothing.
use Rattle.std.proofs.Common.{◌≡◌, ℕ, zero, suc, ◌+◌, ◌-◌, ◌≤◌, List, length, take, sum, sym, refl, ap, ◌∙◌, add-one, arith}
use Rattle.std.proofs.Math.Seq.{take-length}
use Rattle.std.proofs.lemmas.List.Sums.{sum_by_more}
use Rattle.sharing.specs.Shares.{before, weighed, total}

pub before_none : (w : ℕ → ℕ) → before w 0 ≡ 0
unfolding before
before_none w = refl

pub before_more : (w : ℕ → ℕ) (t : ℕ) → before w (t + 1) ≡ before w t + w t
unfolding before
before_more w t = rw add-one

before_add : (w : ℕ → ℕ) (a d : ℕ) → before w a ≤ before w (a + d)
before_add w a zero = omega (arith, ap (before w) (let e : a + 0 ≡ a = omega arith in e))
before_add w a (suc d) = omega (arith, before_add w a d, before_more w (a + d), ap (before w) (let e : a + suc d ≡ a + d + 1 = omega arith in e))

pub before_le : (w : ℕ → ℕ) (a b : ℕ) → a ≤ b → before w a ≤ before w b
before_le w a b h = omega (arith, before_add w a (b - a), ap (before w) (let e : a + (b - a) ≡ b = omega arith in e))

sum_before : (ws : List ℕ) (t : ℕ) → t ≤ length ws → sum (take t ws) ≡ before (weighed ws) t
sum_before ws zero h = sym (before_none (weighed ws))
sum_before ws (suc t) h = grind (arith, sum_by_more (λ w. w) ws t 0 h, before_more (weighed ws) t, sum_before ws t (omega arith))

-- the library's sum of a list is its total
pub sum_is_total : (ws : List ℕ) → sum ws ≡ total ws
sum_is_total ws = ap sum (sym (take-length ws)) ∙ sum_before ws (length ws) (omega arith)
