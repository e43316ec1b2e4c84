-- Twelve months added up, and a list that names a date. Assumes nothing.
use Rattle.std.proofs.Common.{◌≡◌, ℕ, zero, suc, ◌≤◌, Bool, cond, eqb, leb, List, map, sum, refl, arith}
use Rattle.std.specs.List.{IsAnyAnswer, range_with_len}
use Rattle.std.proofs.lemmas.List.Elements.{contains_decides}
use Rattle.std.proofs.lemmas.Bool.Decides.{same_from_decides, Decides-by_or, Decides-eqb}
use Rattle.calendar.specs.Dates.{begun}
use Rattle.calendar.specs.Places.{named}

pub begun_added : (f : ℕ → ℕ) (q : ℕ) → sum (map (λ m. cond (leb (f m) q) 1 0) (range_with_len 1 12)) ≡ begun f q 12
unfolding begun
begun_added f q = omega arith

pub begun_bound : (f : ℕ → ℕ) (q n : ℕ) → begun f q n ≤ n
unfolding begun
begun_bound f q zero = omega arith
begun_bound f q (suc n) = let before = begun_bound f q n in grind arith

pub named_is : (hs : List ℕ) (x : ℕ) (r : Bool) → IsAnyAnswer (λ y t. eqb y x ≡ t) hs r → r ≡ named hs x
named_is hs x r h =
    same_from_decides r (named hs x) (contains_decides eqb Decides-eqb hs x r h)
    (Decides-by_or (λ y. eqb y x) (λ y. y ≡ x) (λ ys. named ys x) (λ y. Decides-eqb y x) refl (λ _ _. refl) hs)
