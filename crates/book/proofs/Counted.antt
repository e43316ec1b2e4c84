-- A definition by the days below n is a walk over these days. Assumes nothing.
use Rattle.std.proofs.Common.{◌≡◌, ℕ, zero, suc, ◌+◌, Bool, false, ◌||◌, [], ◌∷◌, ◌++◌, fold, sym, refl, ap, ◌∙◌, arith}
use Rattle.std.specs.List.{range_with_len, list_any}
use Rattle.std.proofs.lemmas.List.Sums.{fold-append}
use Rattle.std.proofs.lemmas.List.Folds.{list_any-append}

range_more : (a n j : ℕ) → a + n ≡ j → range_with_len a (suc n) ≡ range_with_len a n ++ j ∷ []
range_more a zero j e = let s : a ≡ j = omega arith in ap (λ x. x ∷ []) s
range_more a (suc n) j e = ap (λ xs. a ∷ xs) (range_more (a + 1) n j (omega arith))

pub fold_days : {X : Type 0} (F : ℕ → X) (h : X → ℕ → X) → ((n : ℕ) → F (suc n) ≡ h (F n) n) → (n : ℕ) → fold h (F 0) (range_with_len 0 n) ≡ F n
fold_days F h more zero = refl
fold_days F h more (suc n) = ap (fold h (F 0)) (range_more 0 n n (omega arith)) ∙ (fold-append h (F 0) (range_with_len 0 n) (n ∷ []) ∙ (ap (λ x. h x n) (fold_days F h more n) ∙ sym (more n)))

or_false : (a b : Bool) → (a || (b || false)) ≡ (a || b)
or_false a b = grind arith

pub any_day : (F p : ℕ → Bool) → F 0 ≡ false → ((n : ℕ) → F (suc n) ≡ (F n || p n)) → (n : ℕ) → list_any p (range_with_len 0 n) ≡ F n
any_day F p none more zero = sym none
any_day F p none more (suc n) = ap (list_any p) (range_more 0 n n (omega arith)) ∙ (list_any-append p (range_with_len 0 n) (n ∷ []) ∙ (or_false (list_any p (range_with_len 0 n)) (p n) ∙ (ap (λ b. b || p n) (any_day F p none more n) ∙ sym (more n))))
