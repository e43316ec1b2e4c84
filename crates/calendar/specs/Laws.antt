-- What the definitions of dates and places come to, in the calendar's own words.
use Rattle.std.specs.Prelude.{◌≡◌, ℕ, ◌+◌, ◌%◌, ◌<◌, ◌≤◌, cond, List, Some, ◌≢◌}
use Rattle.calendar.specs.declared.CivilDate.{CivilDate}
use Rattle.calendar.specs.Dates.{last_date, leap, new_year, days_before_month, month_length, date_of, civil_of, year_of}
use Rattle.calendar.specs.Places.{weekday, week_of, since_monday, day_counted}

-- Every date is the date of its year, month and day, and of no other.
pub record OneCalendar : Type 0 where
  pub back : (x : ℕ) → x ≤ last_date → date_of (civil_of x) ≡ Some x
  pub only : (c : CivilDate) (x : ℕ) → date_of c ≡ Some x → (x ≤ last_date) × (civil_of x ≡ c)

-- The days before a month grow by the month's length, from 0 before January to the whole year after December.
pub record Months : Type 0 where
  pub january : (y : ℕ) → days_before_month y 1 ≡ 0
  pub next : (y m : ℕ) → 1 ≤ m → m < 12 → days_before_month y (m + 1) ≡ days_before_month y m + month_length y m
  pub december : (y : ℕ) → days_before_month y 12 + 31 ≡ cond (leap y) 366 365

-- Weeks are numbered 1 to 52 and days 1 to 7. The weekday is what counting from the Monday on or before 1 January
-- gives; 1 January lies in week 1, and within a year a new week begins on a Monday only.
pub record Weeks : Type 0 where
  pub week_bound : (x : ℕ) → (1 ≤ week_of x) × (week_of x ≤ 52)
  pub day_bound : (hs : List ℕ) (x : ℕ) → (1 ≤ day_counted hs x) × (day_counted hs x ≤ 7)
  pub counted : (x : ℕ) → x ≤ last_date → weekday x ≡ 1 + since_monday x % 7
  pub first : (y : ℕ) → 2001 ≤ y → y ≤ 2099 → week_of (new_year y) ≡ 1
  pub stays : (x : ℕ) → x < last_date → year_of (x + 1) ≡ year_of x → (weekday (x + 1) ≢ 1) → week_of (x + 1) ≡ week_of x
