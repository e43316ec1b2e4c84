-- Tests in the order of their numbers find the upper number that applies. Assumes nothing.
use Rattle.std.proofs.Common.{◌≡◌, ℕ, ◌<◌, Bool, true, false, cond, ◌&&◌, ◌||◌, eqb, ltb, List, [], ◌∷◌, Some, refl, arith}
use Rattle.std.proofs.lemmas.Bool.{and_parts, false≢true}
use Rattle.std.proofs.lemmas.Bool.Decides.{nat_tests}
use Rattle.book_rules.specs.Refusing.{Upper}
use Rattle.book_rules.specs.Tests.{first}

-- the numbers rise from low on
abbrev pub rising : ℕ → List (ℕ × Bool) → Bool
rising low [] = true
rising low (x ∷ xs) = ltb low x.0 && rising x.0 xs

-- a test of that number holds
abbrev pub tested : ℕ → List (ℕ × Bool) → Bool
tested j [] = false
tested j (x ∷ xs) = (eqb j x.0 && x.1) || tested j xs

-- where a test holds its number applies
abbrev pub Sound : (ℕ → Type 0) → List (ℕ × Bool) → Type 0
Sound A [] = Unit {0}
Sound A (x ∷ xs) = (x.1 ≡ true → A x.0) × Sound A xs

-- every test fails
abbrev pub Failed : List (ℕ × Bool) → Type 0
Failed [] = Unit {0}
Failed (x ∷ xs) = (x.1 ≡ false) × Failed xs

tested_above : (low j : ℕ) (xs : List (ℕ × Bool)) → rising low xs ≡ true → tested j xs ≡ true → low < j
tested_above low j [] r t = absurd (cc)
tested_above low j (x ∷ xs) r t = let rest = tested_above x.0 j xs in grind (arith, nat_tests)

module _ (A : ℕ → Type 0) where
  on_one : (k : ℕ) (b : Bool) (xs : List (ℕ × Bool)) → rising k xs ≡ true → (b ≡ true → A k) → ((j : ℕ) → A j → tested j ((k, b) ∷ xs) ≡ true) → (((j : ℕ) → A j → tested j xs ≡ true) → Upper A (first xs)) → Upper A (cond b (Some k) (first xs))
  on_one k true xs r s t rest = (s refl, λ j lt a. let h = t j a in let above = tested_above k j xs r in grind (arith, nat_tests))
  on_one k false xs r s t rest = rest (λ j a. let h = t j a in grind (arith, nat_tests))

  pub upper : (low : ℕ) (xs : List (ℕ × Bool)) → rising low xs ≡ true → Sound A xs → ((j : ℕ) → A j → tested j xs ≡ true) → Upper A (first xs)
  upper low [] r s t = λ j a. absurd (false≢true (t j a))
  upper low (x ∷ xs) r s t =
      let p = and_parts (ltb low x.0) (rising x.0 xs) r in
      on_one x.0 x.1 xs p.1 s.0 t (λ u. upper x.0 xs p.1 s.1 u)

  -- where no number applies every test fails
  pub failed : (xs : List (ℕ × Bool)) → Sound A xs → ((j : ℕ) → A j → ⊥) → Failed xs
  failed [] s none = tt
  failed (x ∷ xs) s none = (by x.1 s.0, failed xs s.1 none)
    where
      by : (b : Bool) → (b ≡ true → A x.0) → b ≡ false
      by true h = absurd (none x.0 (h refl))
      by false h = refl
