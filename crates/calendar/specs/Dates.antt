-- Dates, and the year, month and day that the calendar gives them.
-- A date is the number of days since Monday 1 January 2001; the last one, 36,158, is 31 December 2099.
use Rattle.std.specs.Prelude.{ℕ, zero, suc, ◌+◌, ◌-◌, ◌*◌, ◌/◌, ◌%◌, min, Bool, cond, ◌&&◌, ◌||◌, List, [], ◌∷◌, Some, None, Option, ◌==◌, nat_le, nat_lt, slice_index}
use Rattle.calendar.specs.declared.CivilDate.{CivilDate}

abbrev pub last_date : ℕ
last_date = 36158

-- From 2001 to 2099 the leap years are those that 4 divides.
abbrev pub leap : ℕ → Bool
leap y = y % 4 == 0

-- The date of 1 January: 365 days for each year since 2001, and one more for each leap year among them.
abbrev pub new_year : ℕ → ℕ
new_year y = 365 * (y - 2001) + (y - 2001) / 4

-- The days of a common year before each month, January to December.
abbrev pub month_starts : List ℕ
month_starts = 0 ∷ 31 ∷ 59 ∷ 90 ∷ 120 ∷ 151 ∷ 181 ∷ 212 ∷ 243 ∷ 273 ∷ 304 ∷ 334 ∷ []

-- The days of a year before a month (1 to 12): from March on, one more in a leap year.
unfoldable pub days_before_month : ℕ → ℕ → ℕ
days_before_month y m = slice_index month_starts (m - 1) + cond (leap y && nat_lt 2 m) 1 0

-- April, June, September and November have 30 days, February 28 or 29, the others 31.
abbrev pub month_length : ℕ → ℕ → ℕ
month_length y m = cond (m == 2) (cond (leap y) 29 28) (cond (m == 4 || m == 6 || m == 9 || m == 11) 30 31)

abbrev pub between : ℕ → ℕ → ℕ → Bool
between low x high = nat_le low x && nat_le x high

-- The calendar has the day: year, month and day are in their bounds.
abbrev pub in_calendar : CivilDate → Bool
in_calendar c = between 2001 c.year 2099 && between 1 c.month 12 && between 1 c.day (month_length c.year c.month)

-- The date of a day that the calendar has.
abbrev pub date_of : CivilDate → Option ℕ
date_of c = cond (in_calendar c) (Some (new_year c.year + days_before_month c.year c.month + (c.day - 1))) None

-- Of n months, of which month m starts on day f m of the year, how many have begun by day q.
unfoldable pub begun : (ℕ → ℕ) → ℕ → ℕ → ℕ
begun f q zero = 0
begun f q (suc n) = begun f q n + cond (nat_le (f (suc n)) q) 1 0

-- Years go round in fours of 1,461 days, the fourth a leap year.
unfoldable pub year_of : ℕ → ℕ
year_of x = 2001 + 4 * (x / 1461) + min 3 (x % 1461 / 365)

-- Days since 1 January of the date's year.
abbrev pub day_of_year : ℕ → ℕ
day_of_year x = x - new_year (year_of x)

-- The month is the number of months of its year that have begun by that day.
abbrev pub month_of : ℕ → ℕ
month_of x = begun (days_before_month (year_of x)) (day_of_year x) 12

-- The day of its month, from 1.
abbrev pub day_of_month : ℕ → ℕ
day_of_month x = day_of_year x - days_before_month (year_of x) (month_of x) + 1

-- The year, month and day of a date.
abbrev pub civil_of : ℕ → CivilDate
civil_of x = record { year = year_of x; month = month_of x; day = day_of_month x }
