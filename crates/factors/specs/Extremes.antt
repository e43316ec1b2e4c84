-- The usage factor of a span, in watts, and when it is extreme. E is the span's energy, S the sum of its weights.
use Rattle.std.specs.Prelude.{ℕ, ◌+◌, ◌*◌, ◌<◌, Bool, ◌||◌, ◌⊎◌, pos, ◌-ℤ◌, ◌*ℤ◌, ◌<ℤ◌, Decides, nat_lt}

-- The factor is handed out as a pair, and never divided.
abbrev pub usage_factor : ℕ → ℕ → ℕ × ℕ
usage_factor e s = (20000 * e, s)

-- 200,000·E is over k·kVA·S, or under (2·theta − k)·kVA·S. The second side may lie below zero.
abbrev pub Extreme : ℕ → ℕ → ℕ → ℕ → ℕ → Type 0
Extreme k theta kva e s = (k * (kva * s) < 200000 * e) ⊎ (pos (200000 * e) <ℤ ((pos (2 * theta) -ℤ pos k) *ℤ pos (kva * s)))

-- The same as a test, with k·kVA·S brought to the other side.
unfoldable pub extreme : ℕ → ℕ → ℕ → ℕ → ℕ → Bool
extreme k theta kva e s = nat_lt (k * (kva * s)) (200000 * e) || nat_lt (200000 * e + k * (kva * s)) (2 * theta * (kva * s))

abbrev pub TestTellsExtremes : Type 0
TestTellsExtremes = (k theta kva e s : ℕ) → Decides (extreme k theta kva e s) (Extreme k theta kva e s)
