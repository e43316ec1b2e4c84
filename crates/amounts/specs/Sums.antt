-- Sums of signed numbers, and what is told of them: lemmas by which the laws of the split kind are proved. No contract
-- cites them. Assumes nothing.
use Rattle.std.specs.Prelude.{◌≡◌, ◌+◌, ◌^◌, ◌≤◌, min, ℤ, pos, negsuc, ◌+ℤ◌, ◌-ℤ◌, unsigned_abs}
use Rattle.std.proofs.Common.{ap, arith}
use Rattle.std.proofs.lemmas.Int.{ints}
use Rattle.amounts.specs.Laws.{Small}
use Rattle.amounts.specs.Told.{told}

told_exact : (z : ℤ) → unsigned_abs z ≤ 10 ^ 18 → told z ≡ z
told_exact (pos n) h = ap pos (omega arith)
told_exact (negsuc n) h = ap negsuc (omega arith)

pub told_abs : (z : ℤ) → unsigned_abs (told z) ≤ min (unsigned_abs z) (10 ^ 18)
told_abs (pos n) = omega arith
told_abs (negsuc n) = omega arith

pub abs_add : (a b : ℤ) → unsigned_abs (a +ℤ b) ≤ unsigned_abs a + unsigned_abs b
abs_add a b = grind (arith, ints)

pub abs_sub : (a b : ℤ) → unsigned_abs (a -ℤ b) ≤ unsigned_abs a + unsigned_abs b
abs_sub a b = grind (arith, ints)

pub mix_add : (a b c d : ℤ) → (a +ℤ c) +ℤ (b +ℤ d) ≡ (a +ℤ b) +ℤ (c +ℤ d)
mix_add a b c d = omega (arith, ints)

pub mix_sub : (a b c d : ℤ) → (a -ℤ c) +ℤ (b -ℤ d) ≡ (a +ℤ b) -ℤ (c +ℤ d)
mix_sub a b c d = omega (arith, ints)

pub add_sub : (a b : ℤ) → (a +ℤ b) -ℤ b ≡ a
add_sub a b = omega (arith, ints)

pub sub_add : (a b : ℤ) → (a -ℤ b) +ℤ b ≡ a
sub_add a b = omega (arith, ints)

pub zero_add : (a : ℤ) → pos 0 +ℤ a ≡ a
zero_add a = omega (arith, ints)

pub told_add : (a b : ℤ) → Small (unsigned_abs a) (unsigned_abs b) → told (a +ℤ b) ≡ told a +ℤ told b
told_add a b h =
    let p = told_exact a (omega arith) in
    let q = told_exact b (omega arith) in
    let r = told_exact (a +ℤ b) (omega (arith, abs_add a b)) in
    cc

pub told_sub : (a b : ℤ) → Small (unsigned_abs a) (unsigned_abs b) → told (a -ℤ b) ≡ told a -ℤ told b
told_sub a b h =
    let p = told_exact a (omega arith) in
    let q = told_exact b (omega arith) in
    let r = told_exact (a -ℤ b) (omega (arith, abs_sub a b)) in
    cc
