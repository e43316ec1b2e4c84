-- What a profile source means: how many half-hours it covers, and a weight for each sub-profile and half-hour.
use Rattle.std.specs.Prelude.{ℕ, ◌+◌, ◌/◌, ◌<◌, ◌≤◌, min, cond, ◌&&◌, Some, None, Option, nat_le, nat_lt}

-- At most 1,680 half-hours are covered: 35 days.
abbrev pub Short : ℕ → Type 0
Short covered = covered ≤ 1680

-- A weight is at most 1,000,000 ten-thousandths, for sub-profiles 0 to 7 and half-hours covered.
abbrev pub Light : ℕ → (ℕ → ℕ → ℕ) → Type 0
Light covered weights = (sub t : ℕ) → sub ≤ 7 → t < covered → weights sub t ≤ 1000000

-- A question past these bounds gets no weight at all; any other gets the weight.
abbrev pub answer : ℕ → (ℕ → ℕ → ℕ) → ℕ → ℕ → Option ℕ
answer covered weights sub t = cond (nat_le sub 7 && nat_lt t covered) (Some (weights sub t)) None

-- What a source covers that is told a number of half-hours: that number, or none of more than 1,680.
abbrev pub coverable : ℕ → ℕ
coverable n = cond (nat_le n 1680) n 0

-- The weight of so many billionths, in ten-thousandths: to the nearest (the half goes up), cut at 1,000,000.
abbrev pub nearest : ℕ → ℕ
nearest billionths = min ((billionths + 50000) / 100000) 1000000
