-- Sums over half-hours: by parts, place by place. Assumes nothing.
use Rattle.std.proofs.Common.{◌≡◌, ℕ, zero, suc, ◌+◌, ◌<◌, sym, refl, ap, ◌∙◌, arith}
use Rattle.sharing.specs.Shares.{before}
use Rattle.sharing.proofs.Sums.{before_none, before_more}
use Rattle.span_rules.specs.Days.{from}

-- sums whose places agree are equal
pub before_same : (f g : ℕ → ℕ) (n : ℕ) → ((t : ℕ) → t < n → f t ≡ g t) → before f n ≡ before g n
before_same f g zero h = before_none f ∙ sym (before_none g)
before_same f g (suc n) h =
    let one : suc n ≡ n + 1 = omega arith in
    let here = h n (omega arith) in
    let rest = before_same f g n (λ t lt. h t (omega arith)) in
    omega (arith, before_more f n, before_more g n, ap (before f) one, ap (before g) one)

-- a sum in two parts
pub before_parts : (w : ℕ → ℕ) (a n : ℕ) → before w (a + n) ≡ before w a + before (from w a) n
before_parts w a zero = omega (arith, before_none (from w a), ap (before w) (let e : a + 0 ≡ a = omega arith in e))
before_parts w a (suc n) =
    let one : suc n ≡ n + 1 = omega arith in
    let far : a + suc n ≡ a + n + 1 = omega arith in
    omega (arith, before_parts w a n, before_more w (a + n), before_more (from w a) n, ap (before w) far, ap (before (from w a)) one)

pub before_zeros : (f : ℕ → ℕ) (n : ℕ) → ((t : ℕ) → t < n → f t ≡ 0) → before f n ≡ 0
before_zeros f zero h = before_none f
before_zeros f (suc n) h =
    let one : suc n ≡ n + 1 = omega arith in
    let here = h n (omega arith) in
    let rest = before_zeros f n (λ t lt. h t (omega arith)) in
    omega (arith, before_more f n, ap (before f) one)

pub before_ones : (f : ℕ → ℕ) (n : ℕ) → ((t : ℕ) → f t ≡ 1) → before f n ≡ n
before_ones f zero h = before_none f
before_ones f (suc n) h =
    let one : suc n ≡ n + 1 = omega arith in
    omega (arith, h n, before_ones f n h, before_more f n, ap (before f) one)
