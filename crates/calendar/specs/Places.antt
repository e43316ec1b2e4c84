-- The place of a date in the profile year: its week, 1 to 52, and the day of the week as which it counts, 1 to 7.
use Rattle.std.specs.Prelude.{ℕ, ◌+◌, ◌-◌, ◌/◌, ◌%◌, Bool, false, cond, ◌&&◌, ◌||◌, List, [], ◌∷◌, Some, None, Option, ◌==◌, nat_le}
use Rattle.calendar.specs.declared.Place.{Place}
use Rattle.calendar.specs.Dates.{last_date, new_year, year_of, day_of_year, month_of, between}

-- The weekday of a date, 1 Monday to 7 Sunday: 1 January 2001 was a Monday.
abbrev pub weekday : ℕ → ℕ
weekday x = 1 + x % 7

-- Days since the Monday on or before 1 January of the date's year.
abbrev pub since_monday : ℕ → ℕ
since_monday x = weekday (new_year (year_of x)) - 1 + day_of_year x

-- The profile week: weeks run from Monday to Sunday, week 1 holds 1 January, and after week 52 comes week 1 again.
unfoldable pub week_of : ℕ → ℕ
week_of x = 1 + since_monday x / 7 % 52

-- The list names a date if the date stands in it.
abbrev pub named : List ℕ → ℕ → Bool
named [] x = false
named (h ∷ hs) x = h == x || named hs x

-- A public holiday; an entry past the last date names none.
abbrev pub holiday : List ℕ → ℕ → Bool
holiday hs x = nat_le x last_date && named hs x

-- A public holiday in April to September.
abbrev pub summer_holiday : List ℕ → ℕ → Bool
summer_holiday hs x = holiday hs x && between 4 (month_of x) 9

-- A Monday before a summer holiday on Tuesday, or a Friday after one on Thursday.
abbrev pub bridging : List ℕ → ℕ → Bool
bridging hs x = (weekday x == 1 && summer_holiday hs (x + 1)) || (weekday x == 5 && summer_holiday hs (x - 1))

-- A holiday counts as Sunday, a bridging day as Saturday, any other day as what it is.
unfoldable pub day_counted : List ℕ → ℕ → ℕ
day_counted hs x = cond (holiday hs x) 7 (cond (bridging hs x) 6 (weekday x))

-- The place of a date.
abbrev pub place_at : List ℕ → ℕ → Place
place_at hs x = record { week = week_of x; day = day_counted hs x }

-- A date past the last one has no place.
abbrev pub place_of : List ℕ → ℕ → Option Place
place_of hs x = cond (nat_le x last_date) (Some (place_at hs x)) None
