-- Sums of sums. Assumes nothing.
use Rattle.std.proofs.Common.{◌≡◌, ℕ, zero, suc, ◌+◌, ◌*◌, ◌<◌, ◌≤◌, Bool, true, false, cond, eqb, ◌⊎◌, ℤ, pos, ◌+ℤ◌, sym, refl, ap, ◌∙◌, ⊎_elim, add-mul, one-mul, zero-mul, add-one, arith}
use lib.IntN.{+ℤ_idr, +ℤ_assoc}
use Rattle.std.proofs.lemmas.Bool.{cases_eq, eq-eqb, ne_eqb, cond-true, cond-false}
use Rattle.std.proofs.lemmas.Int.{ints}
use Rattle.sharing.specs.Shares.{before}
use Rattle.sharing.proofs.Sums.{before_none, before_more}
use Rattle.span_rules.proofs.Sums.{before_same, before_zeros}
use Rattle.sheet_rules.specs.Account.{sum_before}

one_more : (f : ℕ → ℕ) (n : ℕ) → before f (suc n) ≡ before f n + f n
one_more f n = let one : suc n ≡ n + 1 = omega arith in ap (before f) one ∙ before_more f n

pub before_plus : (f g : ℕ → ℕ) (n : ℕ) → before (λ i. f i + g i) n ≡ before f n + before g n
before_plus f g zero = omega (arith, before_none f, before_none g, before_none (λ i. f i + g i))
before_plus f g (suc n) = omega (arith, one_more f n, one_more g n, one_more (λ i. f i + g i) n, before_plus f g n)

-- sums change places
pub before_swap : (g : ℕ → ℕ → ℕ) (m n : ℕ) → before (λ a. before (λ b. g a b) n) m ≡ before (λ b. before (λ a. g a b) m) n
before_swap g zero n = before_none (λ a. before (λ b. g a b) n) ∙ sym (before_zeros (λ b. before (λ a. g a b) 0) n (λ b lt. before_none (λ a. g a b)))
before_swap g (suc m) n =
    one_more (λ a. before (λ b. g a b) n) m
    ∙ (ap (λ (k : ℕ). k + before (λ b. g m b) n) (before_swap g m n)
    ∙ (sym (before_plus (λ b. before (λ a. g a b) m) (λ b. g m b) n)
    ∙ before_same (λ b. before (λ a. g a b) m + g m b) (λ b. before (λ a. g a b) (suc m)) n (λ b lt. sym (one_more (λ a. g a b) m))))

-- one place alone
pub before_picked : (q e n : ℕ) → q < n → before (λ r. cond (eqb q r) e 0) n ≡ e
before_picked q e zero lt = absurd (omega arith)
before_picked q e (suc n) lt =
    ⊎_elim {C = before (λ r. cond (eqb q r) e 0) (suc n) ≡ e}
    (λ (same : q ≡ n).
    let rest : before (λ r. cond (eqb q r) e 0) n ≡ 0 = before_zeros (λ r. cond (eqb q r) e 0) n (λ t l. cond-false _ _ _ (ne_eqb q t (λ k. omega arith))) in
    omega (arith, one_more (λ r. cond (eqb q r) e 0) n, cond-true (eqb q n) e 0 (eq-eqb q n same)))
    (λ (other : q ≡ n → ⊥).
    let less : q < n = below q n other lt in
    omega (arith, one_more (λ r. cond (eqb q r) e 0) n, cond-false (eqb q n) e 0 (ne_eqb q n other), before_picked q e n less))
    (cases_eq q n)
  where
    below : (a b : ℕ) → (a ≡ b → ⊥) → a < suc b → a < b
    below a b ne h = omega arith

-- two by two
pub before_pairs : (f : ℕ → ℕ) (n : ℕ) → before f (2 * n) ≡ before (λ s. f (2 * s) + f (2 * s + 1)) n
before_pairs f zero = ap (before f) (let e : 2 * 0 ≡ 0 = refl in e) ∙ (before_none f ∙ sym (before_none (λ s. f (2 * s) + f (2 * s + 1))))
before_pairs f (suc n) =
    let two : 2 * suc n ≡ 2 * n + 1 + 1 = omega arith in
    omega (arith, ap (before f) two, before_more f (2 * n + 1), before_more f (2 * n), one_more (λ s. f (2 * s) + f (2 * s + 1)) n, before_pairs f n)

pub sum_none : (f : ℕ → ℤ) → sum_before f 0 ≡ pos 0
unfolding sum_before
sum_none f = refl

pub sum_more : (f : ℕ → ℤ) (n : ℕ) → sum_before f (n + 1) ≡ sum_before f n +ℤ f n
unfolding sum_before
sum_more f n = rw add-one

-- a sum of whole numbers none of which lies below 0
pub sum_pos : (f : ℕ → ℤ) (g : ℕ → ℕ) (n : ℕ) → ((i : ℕ) → i < n → f i ≡ pos (g i)) → sum_before f n ≡ pos (before g n)
sum_pos f g zero h = sum_none f ∙ ap pos (sym (before_none g))
sum_pos f g (suc n) h =
    let one : suc n ≡ n + 1 = omega arith in
    let rest = sum_pos f g n (λ i lt. h i (omega arith)) in
    let here = h n (omega arith) in
    ap (sum_before f) one ∙ (sum_more f n ∙ (ap (λ (z : ℤ). z +ℤ f n) rest ∙ (ap (λ (z : ℤ). pos (before g n) +ℤ z) here ∙ ap pos (sym (ap (before g) one ∙ before_more g n)))))

-- a sum in two parts, and row by row
sum_parts : (f : ℕ → ℤ) (a n : ℕ) → sum_before f (a + n) ≡ sum_before f a +ℤ sum_before (λ i. f (a + i)) n
sum_parts f a zero =
    ap (sum_before f) (let e : a + 0 ≡ a = omega arith in e) ∙ (sym (+ℤ_idr (sum_before f a)) ∙ ap (λ (z : ℤ). sum_before f a +ℤ z) (sym (sum_none (λ i. f (a + i)))))
sum_parts f a (suc n) =
    let far : a + suc n ≡ a + n + 1 = omega arith in
    let one : suc n ≡ n + 1 = omega arith in
    ap (sum_before f) far
    ∙ (sum_more f (a + n)
    ∙ (ap (λ (z : ℤ). z +ℤ f (a + n)) (sum_parts f a n)
    ∙ (+ℤ_assoc (sum_before f a) (sum_before (λ i. f (a + i)) n) (f (a + n))
    ∙ ap (λ (z : ℤ). sum_before f a +ℤ z) (sym (ap (sum_before (λ i. f (a + i))) one ∙ sum_more (λ i. f (a + i)) n)))))

pub sum_rows : (f : ℕ → ℤ) (rows hs : ℕ) → sum_before f (rows * hs) ≡ sum_before (λ r. sum_before (λ t. f (r * hs + t)) hs) rows
sum_rows f zero hs = ap (sum_before f) (zero-mul hs) ∙ (sum_none f ∙ sym (sum_none (λ r. sum_before (λ t. f (r * hs + t)) hs)))
sum_rows f (suc r) hs =
    let one : suc r ≡ r + 1 = omega arith in
    let more : suc r * hs ≡ r * hs + hs = ap (λ (z : ℕ). z * hs) one ∙ (add-mul r 1 hs ∙ ap (λ (z : ℕ). r * hs + z) (one-mul hs)) in
    ap (sum_before f) more
    ∙ (sum_parts f (r * hs) hs
    ∙ (ap (λ (z : ℤ). z +ℤ sum_before (λ t. f (r * hs + t)) hs) (sum_rows f r hs)
    ∙ sym (ap (sum_before (λ q. sum_before (λ t. f (q * hs + t)) hs)) one ∙ sum_more (λ q. sum_before (λ t. f (q * hs + t)) hs) r)))
