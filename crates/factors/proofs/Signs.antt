-- The extreme test against its rule over signed numbers. Assumes nothing.
use Rattle.std.proofs.Common.{◌≡◌, ℕ, zero, suc, ◌+◌, ◌*◌, ◌<◌, ltb, ℤ, pos, ◌+ℤ◌, ◌-ℤ◌, ◌*ℤ◌, ◌<ℤ◌, Decides, sym, ap, ◌∙◌, subst, mul-zero, mul-suc, arith}
use lib.IntN.{zero-*ℤ, suc_ℤ-*ℤ, *ℤ_comm}
use Rattle.std.proofs.lemmas.Int.{ints}
use Rattle.std.proofs.lemmas.Bool.Decides.{Decides-or, Decides-ltb, Decides-like}
use Rattle.factors.specs.Extremes.{extreme, TestTellsExtremes}

-- a difference, taken m times
times : (m b c : ℕ) → pos m *ℤ (pos b -ℤ pos c) ≡ pos (b * m) -ℤ pos (c * m)
times zero b c =
    let x = mul-zero b in let y = mul-zero c in
    zero-*ℤ (pos b -ℤ pos c) ∙ omega (arith, ints)
times (suc m) b c =
    let x = mul-suc b m in let y = mul-suc c m in
    let more : pos (b * m) -ℤ pos (c * m) +ℤ (pos b -ℤ pos c) ≡ pos (b * suc m) -ℤ pos (c * suc m) = omega (arith, ints) in
    suc_ℤ-*ℤ (pos m) (pos b -ℤ pos c) ∙ (ap (λ (v : ℤ). v +ℤ (pos b -ℤ pos c)) (times m b c) ∙ more)

under : (a b c m : ℕ) → Decides (ltb (a + c * m) (b * m)) (pos a <ℤ ((pos b -ℤ pos c) *ℤ pos m))
under a b c m =
    let d = *ℤ_comm (pos b -ℤ pos c) (pos m) ∙ times m b c in
    Decides-like (ltb (a + c * m) (b * m))
    (λ (h : a + c * m < b * m). subst (λ (v : ℤ). pos a <ℤ v) (sym d) (omega (arith, ints)))
    (λ h. let k : pos a <ℤ (pos (b * m) -ℤ pos (c * m)) = subst (λ (v : ℤ). pos a <ℤ v) d h in omega (arith, ints))
    (Decides-ltb (a + c * m) (b * m))

pub test_tells : TestTellsExtremes
unfolding extreme
test_tells k theta kva e s =
    Decides-or (ltb (k * (kva * s)) (200000 * e)) (ltb (200000 * e + k * (kva * s)) (2 * theta * (kva * s)))
    (Decides-ltb (k * (kva * s)) (200000 * e)) (under (200000 * e) (2 * theta) k (kva * s))
