-- Every date has one year, month and day. Assumes nothing.
use Rattle.std.proofs.Common.{◌≡◌, ℕ, zero, suc, ◌+◌, ◌-◌, ◌/◌, ◌%◌, ◌<◌, ◌≤◌, Bool, true, false, cond, ◌&&◌, leb, ◌≢◌, List, Some, sym, ap, ◌∙◌, subst, ⊎_elim, arith}
use native.Mathlib.Nat.{mod-add-mod}
use Rattle.std.proofs.lemmas.Bool.{cases_lt, leb-true, le-leb, and_parts, and_from, cond-true}
use Rattle.std.proofs.lemmas.Bool.Decides.{nat_tests}
use Rattle.std.proofs.lemmas.Option.{cond_some}
use Rattle.calendar.specs.declared.CivilDate.{CivilDate}
use Rattle.calendar.specs.Dates.{last_date, new_year, days_before_month, month_length, begun, between, in_calendar, date_of, civil_of, year_of, day_of_year, month_of, day_of_month}
use Rattle.calendar.specs.Places.{weekday, week_of, since_monday, holiday, bridging, day_counted}
use Rattle.calendar.proofs.Days.{in_year, InYear, month_on_date, InMonth, month_next, december, year_length, begun_at, months_rise}

pub week_bound : (x : ℕ) → (1 ≤ week_of x) × (week_of x ≤ 52)
unfolding week_of
week_bound x = (omega arith, omega arith)

pub day_bound : (hs : List ℕ) (x : ℕ) → (1 ≤ day_counted hs x) × (day_counted hs x ≤ 7)
unfolding day_counted
day_bound hs x = counts (holiday hs x) (bridging hs x) where
  counts : (a b : Bool) → (1 ≤ cond a 7 (cond b 6 (weekday x))) × (cond a 7 (cond b 6 (weekday x)) ≤ 7)
  counts true b = (omega arith, omega arith)
  counts false true = (omega arith, omega arith)
  counts false false = (omega arith, omega arith)

-- counting on from a day of the week gives the days of the week
from_monday : (start x : ℕ) → start ≤ x → x % 7 ≡ (1 + start % 7 - 1 + (x - start)) % 7
from_monday start x h =
    let e : start % 7 + (x - start) ≡ 1 + start % 7 - 1 + (x - start) = omega arith in
    let f : start + (x - start) ≡ x = omega arith in
    ap (λ (v : ℕ). v % 7) (sym f) ∙ (sym (mod-add-mod start 7 (x - start)) ∙ ap (λ (v : ℕ). v % 7) e)

pub weekday_counted : (x : ℕ) → x ≤ last_date → weekday x ≡ 1 + since_monday x % 7
weekday_counted x h = ap (λ (v : ℕ). 1 + v) (from_monday (new_year (year_of x)) x (in_year x h).started)

-- a number between two bounds passes the test
between_true : (a x b : ℕ) → a ≤ x → x ≤ b → between a x b ≡ true
between_true a x b h k = and_from (leb a x) (leb x b) (le-leb a x h) (le-leb x b k)

pub back : (x : ℕ) → x ≤ last_date → date_of (civil_of x) ≡ Some x
back x h =
    let y = in_year x h in
    let m = month_on_date x h in
    let inside : in_calendar (civil_of x) ≡ true =
    and_from _ _ (and_from _ _ (between_true 2001 (year_of x) 2099 y.first y.last) (between_true 1 (month_of x) 12 m.first m.last))
    (between_true 1 (day_of_month x) (month_length (year_of x) (month_of x)) (omega arith) (omega arith)) in
    cond-true _ _ _ inside ∙ ap Some (omega arith)

-- a date lies in one year only
year_once : (x y : ℕ) → InYear x y → year_of x ≡ y
unfolding year_of
year_once x y i = let a = i.first in let b = i.started in let c = i.inside in grind (arith, nat_tests)

last_day : (x y : ℕ) → InYear x y → x ≤ last_date
last_day x y i = let a = i.last in let b = i.inside in grind (arith, nat_tests)

-- a day lies in one month only
month_once : (y q m : ℕ) → InMonth y q m → begun (days_before_month y) q 12 ≡ m
month_once y q m i =
    let k = begun (days_before_month y) q 12 in
    let b = begun_at (days_before_month y) q 12 (months_rise y) 12 (omega arith) in
    let low : m ≤ k = ⊎_elim {C = m ≤ k} (λ (lt : k < m). absurd (omega (arith, b.ahead m lt i.last, i.started))) (λ (ge : m ≤ k). ge) (cases_lt k m) in
    let up : k ≤ m =
    ⊎_elim {C = k ≤ m} (λ (lt : m < k). absurd (omega (arith, b.within, b.passed (m + 1) (omega arith) (omega arith), month_next y m i.first (omega (arith, b.within)), i.inside))) (λ (ge : k ≤ m). ge) (cases_lt m k) in
    omega arith

-- a month ends with its year at the latest
rise_to : (y d m : ℕ) → 1 ≤ m → m + d ≡ 12 → days_before_month y m ≤ days_before_month y 12
rise_to y zero m low e = omega (arith, ap (days_before_month y) (let f : m ≡ 12 = omega arith in f))
rise_to y (suc d) m low e = omega (arith, months_rise y m low (omega arith), rise_to y d (m + 1) (omega arith) (omega arith))

month_end : (y m : ℕ) → 1 ≤ m → m ≤ 12 → days_before_month y m + month_length y m ≤ year_length y
month_end y m low up =
    ⊎_elim {C = days_before_month y m + month_length y m ≤ year_length y}
    (λ (lt : m < 12). omega (arith, month_next y m low lt, rise_to y (11 - m) (m + 1) (omega arith) (omega arith), december y))
    (λ (ge : 12 ≤ m). let e : 12 ≡ m = omega arith in subst (λ (v : ℕ). days_before_month y v + month_length y v ≤ year_length y) e (omega (arith, december y)))
    (cases_lt m 12)

within : (a x b : ℕ) → between a x b ≡ true → (a ≤ x) × (x ≤ b)
within a x b e = let p = and_parts (leb a x) (leb x b) e in (leb-true a x p.0, leb-true x b p.1)

pub only : (c : CivilDate) (x : ℕ) → date_of c ≡ Some x → (x ≤ last_date) × (civil_of x ≡ c)
only c x e =
    let w = cond_some (in_calendar c) _ x e in
    let p = and_parts (between 2001 c.year 2099 && between 1 c.month 12) _ w.0 in
    let q = and_parts (between 2001 c.year 2099) _ p.0 in
    let y = within 2001 c.year 2099 q.0 in
    let m = within 1 c.month 12 q.1 in
    let d = within 1 c.day (month_length c.year c.month) p.1 in
    let end = month_end c.year c.month m.0 m.1 in
    let v = w.1 in
    let iy : InYear x c.year = record { first = y.0; last = y.1; started = omega arith; inside = omega arith } in
    let same_year = year_once x c.year iy in
    let im : InMonth c.year (x - new_year c.year) c.month = record { first = m.0; last = m.1; started = omega arith; inside = omega arith } in
    let same_month = month_once c.year (x - new_year c.year) c.month im in
    let month_is : month_of x ≡ c.month = cc in
    let before_is : days_before_month (year_of x) (month_of x) ≡ days_before_month c.year c.month = cc in
    let day_of_year_is : day_of_year x ≡ x - new_year c.year = cc in
    let day_is : day_of_month x ≡ c.day = omega arith in
    (last_day x c.year iy, λ i. record { year = same_year i; month = month_is i; day = day_is i })

pub first_week : (y : ℕ) → 2001 ≤ y → y ≤ 2099 → week_of (new_year y) ≡ 1
unfolding week_of
first_week y low up =
    let same = year_once (new_year y) y (record { first = low; last = up; started = omega arith; inside = grind (arith, nat_tests) }) in
    let start : new_year (year_of (new_year y)) ≡ new_year y = ap new_year same in
    omega arith

one_on : (start other x : ℕ) → other ≡ start → start ≤ x → weekday other - 1 + (x + 1 - other) ≡ weekday start - 1 + (x - start) + 1
one_on start other x e h = subst (λ (v : ℕ). weekday v - 1 + (x + 1 - v) ≡ weekday start - 1 + (x - start) + 1) (sym e) (omega arith)

same_seven : (p q : ℕ) → q ≡ p + 1 → q % 7 ≢ 0 → q / 7 ≡ p / 7
same_seven p q e h = omega arith

pub week_stays : (x : ℕ) → x < last_date → year_of (x + 1) ≡ year_of x → (weekday (x + 1) ≡ 1 → ⊥) → week_of (x + 1) ≡ week_of x
unfolding week_of
week_stays x h same not_monday =
    let start : new_year (year_of (x + 1)) ≡ new_year (year_of x) = ap new_year same in
    let i = (in_year x (omega arith)).started in
    let next : since_monday (x + 1) ≡ since_monday x + 1 = one_on (new_year (year_of x)) (new_year (year_of (x + 1))) x start i in
    let day = weekday_counted (x + 1) (omega arith) in
    let not_zero : since_monday (x + 1) % 7 ≢ 0 = λ zero_day. not_monday (omega arith) in
    ap (λ (v : ℕ). 1 + v % 52) (same_seven (since_monday x) (since_monday (x + 1)) next not_zero)
