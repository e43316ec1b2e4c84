-- The sum before a place as the sum of a list, and its bound. Assumes nothing.
use Rattle.std.proofs.Common.{◌≡◌, ℕ, zero, suc, ◌*◌, ◌<◌, ◌≤◌, List, length, map, sum, sym, refl, ap, ◌∙◌, subst, arith, add-one, zero-add}
use Rattle.std.specs.List.{range_with_len}
use Rattle.std.proofs.lemmas.List.FromFn.{fill_by_all, sum_by-map-range_with_len_more}
use Rattle.sharing.specs.Shares.{before, weighed, total}
use Rattle.sharing.proofs.Sums.{before_none, before_more}

pub sum_of_places : (w : ℕ → ℕ) (n : ℕ) → sum (map w (range_with_len 0 n)) ≡ before w n
sum_of_places w zero = sym (before_none w)
sum_of_places w (suc k) =
    subst (λ (v : ℕ). sum (map w (range_with_len 0 v)) ≡ before w v) (add-one k)
    (omega (arith, sum_of_places w k, before_more w k, sum_by-map-range_with_len_more (λ x. x) w 0 k k (zero-add k)))

pub sum_total : (ws : List ℕ) → sum ws ≡ total ws
sum_total ws = ap sum (fill_by_all (weighed ws) ws (length ws) 0 refl (λ k h. refl)) ∙ sum_of_places (weighed ws) (length ws)

pub light_before : (w : ℕ → ℕ) (n : ℕ) → ((t : ℕ) → t < n → w t ≤ 1000000) → before w n ≤ 1000000 * n
light_before w zero light = omega (arith, before_none w)
light_before w (suc k) light = subst (λ (v : ℕ). before w v ≤ 1000000 * v) (add-one k) (omega (arith, before_more w k, light k (omega arith), light_before w k (λ t h. light t (omega arith))))
