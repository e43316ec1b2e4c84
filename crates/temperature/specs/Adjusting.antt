-- How a weight follows the temperature. Temperatures are in tenths of a degree, gradients in ten-thousandths per degree.
use Rattle.std.specs.Prelude.{ℕ, ◌+◌, ◌*◌, ◌/◌, min, ℤ, pos, negsuc, ◌+ℤ◌, ◌-ℤ◌, ◌*ℤ◌, slice_index, slice_index_or}
use Rattle.std.specs.Int.{int_min}
use Rattle.temperature.specs.declared.Temperatures.{Temperatures}

-- How much colder it was than is normal, in tenths: above the heating threshold temperature has no effect.
abbrev pub colder : ℤ → ℤ → ℤ → ℤ
colder threshold normal measured = int_min threshold normal -ℤ int_min threshold measured

-- The factor in hundred-thousandths.
abbrev pub factor : ℕ → ℤ → ℤ
factor gradient d = pos 100000 +ℤ (pos gradient *ℤ d)

-- The weight times the factor, to the nearest (the half goes up), cut at 1,000,000; 0 where the factor is negative.
abbrev pub scaled : ℕ → ℤ → ℕ
scaled weight (pos f) = min ((weight * f + 50000) / 100000) 1000000
scaled weight (negsuc f) = 0

-- The weight of a half-hour, adjusted from the weights below.
abbrev pub adjusted : Temperatures → (ℕ → ℕ → ℕ) → ℕ → ℕ → ℕ
adjusted held weights sub t =
    scaled (weights sub t) (factor (slice_index held.gradients sub) (colder held.threshold (slice_index_or held.normal t (pos 0)) (slice_index_or held.measured t (pos 0))))
