-- Weights by coefficients: of the week (CS), of the day (CJ) and of the half-hour of the day (CH), in thousandths.
use Rattle.std.specs.Prelude.{ℕ, ◌+◌, ◌-◌, ◌*◌, ◌/◌, ◌%◌, ◌≤◌, min, Bool, cond, ◌&&◌, List, length, nat_le, slice_index, slice_index_or}
use Rattle.calendar.specs.declared.Place.{Place}
use Rattle.calendar.specs.Places.{place_at}

-- The product of three coefficients in ten-thousandths, to the nearest (the half goes up), cut at 1,000,000.
abbrev pub product : ℕ → ℕ → ℕ → ℕ
product cs cj ch = min ((cs * cj * ch + 50000) / 100000) 1000000

-- The list has 395 numbers for each sub-profile in turn: 52 for the weeks, 7 for the days, and 48 for the half-hours of
-- each of the 7 days. The weight at a place for half-hour h of the day, 0 to 47.
abbrev pub coefficient_weight : List ℕ → Place → ℕ → ℕ → ℕ
coefficient_weight list place sub h =
    product (slice_index list (395 * sub + (place.week - 1))) (slice_index list (395 * sub + 52 + (place.day - 1)))
    (slice_index list (395 * sub + 59 + 48 * (place.day - 1) + h))

-- Day k of a list of places; past the list there is no such place.
abbrev pub day_place : List Place → ℕ → Place
day_place places k = slice_index_or places k (record { week = 0; day = 0 })

-- A place lies in the profile year: weeks 1 to 52, days 1 to 7.
pub record InYear (place : Place) : Type 0 where
  pub week_low : 1 ≤ place.week
  pub week_high : place.week ≤ 52
  pub day_low : 1 ≤ place.day
  pub day_high : place.day ≤ 7

-- Half-hour t from the first date on takes its weight at the place of its day.
abbrev pub calendar_weight : List ℕ → List ℕ → ℕ → ℕ → ℕ → ℕ
calendar_weight list holidays first sub t = coefficient_weight list (place_at holidays (first + t / 48)) sub (t % 48)

-- A horizon has 1 to 35 days, all between the first and the last date.
abbrev pub good_horizon : ℕ → ℕ → Bool
good_horizon first days = nat_le 1 days && nat_le days 35 && nat_le (first + days) 36159

-- The days covered: those told, or none with a list shorter than 3,160 or a bad horizon.
abbrev pub days_covered : List ℕ → ℕ → ℕ → ℕ
days_covered list first days = cond (nat_le 3160 (length list) && good_horizon first days) days 0
