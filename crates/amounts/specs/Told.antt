-- What is told of a number: past 10^18 either side of 0, 10^18 on that side.
use Rattle.std.specs.Prelude.{ℕ, ◌-◌, ◌^◌, min, ℤ, pos, negsuc}

abbrev pub told : ℤ → ℤ
told (pos n) = pos (min n (10 ^ 18))
told (negsuc n) = negsuc (min n (10 ^ 18 - 1))

abbrev pub told_size : ℕ → ℕ
told_size n = min n (10 ^ 18)
