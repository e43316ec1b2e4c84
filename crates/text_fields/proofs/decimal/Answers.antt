use Rattle.std.proofs.Common.{ℕ, ◌^◌, ◌<◌, ◌≤◌, arith}
use native.Mathlib.Nat.{pow-le-pow_right}
use Rattle.text_fields.proofs.decimal.Goals as goal

-- what eight digits write is below the ninth power
power_under : (i : ℕ) → i < 9 → 10 ^ i ≤ 100000000
power_under i h = pow-le-pow_right {n = 10} (omega arith) {i = i} {j = 8} (omega arith)

pub overflow_mul-value : goal.overflow_mul-value
overflow_mul-value c = omega (arith, c.loop-byte.invariant.2, power_under c.loop-byte.byte-index (omega arith))

pub overflow_add-value : goal.overflow_add-value
overflow_add-value c = omega (arith, c.loop-byte.invariant.2, power_under c.loop-byte.byte-index (omega arith))
