-- Years and months against the days that they span. Assumes nothing.
use Rattle.std.proofs.Common.{◌≡◌, ℕ, zero, suc, ◌+◌, ◌-◌, ◌<◌, ◌≤◌, Bool, true, false, cond, ◌&&◌, ◌||◌, eqb, ltb, leb, get_or, refl, ap, subst, ⊎_elim, arith}
use Rattle.std.proofs.lemmas.Bool.{cases_lt}
use Rattle.std.proofs.lemmas.Bool.Decides.{nat_tests, Decides-below_and, Decides-and, Decides-eqb}
use Rattle.calendar.specs.Dates.{last_date, leap, new_year, month_starts, days_before_month, month_length, begun, year_of, day_of_year, month_of}

-- the days of a year
abbrev pub year_length : ℕ → ℕ
year_length y = cond (leap y) 366 365

-- a date lies in its year
pub record InYear (x y : ℕ) : Type 0 where
  pub first : 2001 ≤ y
  pub last : y ≤ 2099
  pub started : new_year y ≤ x
  pub inside : x - new_year y < year_length y

pub in_year : (x : ℕ) → x ≤ last_date → InYear x (year_of x)
unfolding year_of
in_year x h = record { first = omega arith; last = omega arith; started = omega arith; inside = grind (arith, nat_tests) }

-- of n months, the first k have begun by day q
pub record Begun (f : ℕ → ℕ) (q n k : ℕ) : Type 0 where
  pub within : k ≤ n
  pub passed : (m : ℕ) → 1 ≤ m → m ≤ k → f m ≤ q
  pub ahead : (m : ℕ) → k < m → m ≤ n → q < f m

module _ (f : ℕ → ℕ) (q : ℕ) (size : ℕ) (rises : (m : ℕ) → 1 ≤ m → m < size → f m ≤ f (m + 1)) where
  -- where a month has begun, all before it have
  all_begun : (n k : ℕ) → suc n ≤ size → Begun f q n k → f (suc n) ≤ q → k ≡ n
  all_begun n k h b le =
      ⊎_elim {C = k ≡ n}
      (λ (lt : k < n). absurd (omega (arith, b.ahead n lt (omega arith), rises n (omega arith) (omega arith), ap f (let e : n + 1 ≡ suc n = omega arith in e))))
      (λ (ge : n ≤ k). omega (arith, b.within))
      (cases_lt k n)

  -- one month more
  one_more : (n k j : ℕ) → suc n ≤ size → j ≡ k + cond (leb (f (suc n)) q) 1 0 → Begun f q n k → Begun f q (suc n) j
  one_more n k j h e b =
      ⊎_elim {C = Begun f q (suc n) j}
      (λ (lt : q < f (suc n)).
      let same : j ≡ k = grind (arith, nat_tests) in
      record {
        within = omega (arith, b.within);
        passed = λ m low up. b.passed m low (omega arith);
        ahead = λ m low up. ⊎_elim {C = q < f m} (λ (less : m < suc n). b.ahead m (omega arith) (omega arith)) (λ (top : suc n ≤ m). subst (λ (v : ℕ). q < f v) (let t : suc n ≡ m = omega arith in t) lt) (cases_lt m (suc n));
      })
      (λ (le : f (suc n) ≤ q).
      let all : k ≡ n = all_begun n k h b le in
      let up : j ≡ suc n = grind (arith, nat_tests) in
      record {
        within = omega arith;
        passed = λ m low top. ⊎_elim {C = f m ≤ q} (λ (less : m < suc n). b.passed m low (omega arith)) (λ (at : suc n ≤ m). subst (λ (v : ℕ). f v ≤ q) (let t : suc n ≡ m = omega arith in t) le) (cases_lt m (suc n));
        ahead = λ m low top. absurd (omega arith);
      })
      (cases_lt q (f (suc n)))

  pub begun_at : (n : ℕ) → n ≤ size → Begun f q n (begun f q n)
  unfolding begun
  begun_at zero h = record { within = omega arith; passed = λ m a b. absurd (omega arith); ahead = λ m a b. absurd (omega arith) }
  begun_at (suc n) h = one_more n (begun f q n) (begun f q (suc n)) h refl (begun_at n (omega arith))

-- the days before a month and a month's days, in a leap year and in another
abbrev starts : Bool → ℕ → ℕ
starts b m = get_or month_starts (m - 1) 0 + cond (b && ltb 2 m) 1 0

abbrev lengths : Bool → ℕ → ℕ
lengths b m = cond (eqb m 2) (cond b 29 28) (cond (eqb m 4 || eqb m 6 || eqb m 9 || eqb m 11) 30 31)

abbrev Follows : Bool → ℕ → Type 0
Follows b k = starts b (suc k + 1) ≡ starts b (suc k) + lengths b (suc k)

abbrev follow : ℕ → Bool
follow k = eqb (starts true (suc k + 1)) (starts true (suc k) + lengths true (suc k)) && eqb (starts false (suc k + 1)) (starts false (suc k) + lengths false (suc k))

abbrev all_follow : ℕ → Bool
all_follow zero = true
all_follow (suc n) = follow n && all_follow n

-- the table's rule, at all of its entries at once
follows : (k : ℕ) → k < 11 → Follows true k × Follows false k
follows =
    (Decides-below_and follow (λ k. Follows true k × Follows false k) all_follow
    (λ k. Decides-and _ _ (Decides-eqb (starts true (suc k + 1)) (starts true (suc k) + lengths true (suc k))) (Decides-eqb (starts false (suc k + 1)) (starts false (suc k) + lengths false (suc k)))) refl (λ _. refl) 11).0 refl

either : (b : Bool) (k : ℕ) → k < 11 → Follows b k
either true k h = (follows k h).0
either false k h = (follows k h).1

pub month_next : (y m : ℕ) → 1 ≤ m → m < 12 → days_before_month y (m + 1) ≡ days_before_month y m + month_length y m
unfolding days_before_month
month_next y zero low up = absurd (omega arith)
month_next y (suc k) low up = either (leap y) k (omega arith)

pub january : (y : ℕ) → days_before_month y 1 ≡ 0
unfolding days_before_month
january y = elim (leap y) as (λ b. starts b 1 ≡ 0) [ true ↦ refl | false ↦ refl ]

pub december : (y : ℕ) → days_before_month y 12 + 31 ≡ year_length y
unfolding days_before_month
december y = elim (leap y) as (λ b. starts b 12 + 31 ≡ cond b 366 365) [ true ↦ refl | false ↦ refl ]

pub length_bound : (y m : ℕ) → (28 ≤ month_length y m) × (month_length y m ≤ 31)
length_bound y m = (grind (arith, nat_tests), grind (arith, nat_tests))

pub months_rise : (y m : ℕ) → 1 ≤ m → m < 12 → days_before_month y m ≤ days_before_month y (m + 1)
months_rise y m low up = omega (arith, month_next y m low up)

-- a day lies in its month
pub record InMonth (y q m : ℕ) : Type 0 where
  pub first : 1 ≤ m
  pub last : m ≤ 12
  pub started : days_before_month y m ≤ q
  pub inside : q - days_before_month y m < month_length y m

pub in_month : (y q : ℕ) → q < year_length y → InMonth y q (begun (days_before_month y) q 12)
in_month y q h =
    let f = days_before_month y in
    let m = begun f q 12 in
    let b = begun_at f q 12 (months_rise y) 12 (omega arith) in
    let some : 1 ≤ m =
    ⊎_elim {C = 1 ≤ m} (λ (lt : m < 1). absurd (omega (arith, b.ahead 1 lt (omega arith), january y))) (λ (ge : 1 ≤ m). ge) (cases_lt m 1) in
    let start : f m ≤ q = b.passed m some (omega arith) in
    record {
      first = some;
      last = b.within;
      started = start;
      inside =
          ⊎_elim {C = q - f m < month_length y m}
          (λ (lt : m < 12). omega (arith, b.ahead (m + 1) (omega arith) (omega arith), month_next y m some lt))
          (λ (ge : 12 ≤ m). let e : 12 ≡ m = omega (arith, b.within) in subst (λ (v : ℕ). q - f v < month_length y v) e (omega (arith, december y)))
          (cases_lt m 12);
    }

pub month_on_date : (x : ℕ) → x ≤ last_date → InMonth (year_of x) (day_of_year x) (month_of x)
month_on_date x h = in_month (year_of x) (day_of_year x) (in_year x h).inside
