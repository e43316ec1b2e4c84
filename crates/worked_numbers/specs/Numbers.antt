-- Worked numbers: what the rules themselves, as the specs state them, come to on examples with known answers.
use Rattle.std.specs.Prelude.{◌≡◌, ℕ, zero, suc, true, false, List, [], ◌∷◌, ◌++◌, length, pos, Some, None, Option}
use Rattle.std.specs.Option.{option_map, unwrap_or, option_to_list}
use Rattle.calendar.specs.declared.CivilDate.{CivilDate}
use Rattle.calendar.specs.declared.Place.{Place}
use Rattle.calendar.specs.Dates.{date_of}
use Rattle.calendar.specs.Places.{place_of}
use Rattle.sharing.specs.Shares.{before, figure, weighed}
use Rattle.coefficients.specs.Weights.{product}
use Rattle.temperature.specs.Adjusting.{colder, factor, scaled}
use Rattle.factors.specs.Extremes.{extreme}

abbrev pub civil : ℕ → ℕ → ℕ → CivilDate
civil y m d = record { year = y; month = m; day = d }

abbrev pub dates : List CivilDate → List ℕ
dates [] = []
dates (c ∷ cs) = option_to_list (date_of c) ++ dates cs

-- The place of a day of the calendar, with holidays given as days of the calendar too.
abbrev pub place_on : List CivilDate → CivilDate → Option Place
place_on holidays c = unwrap_or (option_map (place_of (dates holidays)) (date_of c)) None

abbrev pub place : ℕ → ℕ → Option Place
place week day = Some (record { week = week; day = day })

-- The figures of energy e over a list of weights: those of the first n half-hours.
abbrev pub first_figures : ℕ → List ℕ → ℕ → List ℕ
first_figures e ws zero = []
first_figures e ws (suc t) = first_figures e ws t ++ (figure e (weighed ws) (length ws) t ∷ [])

abbrev pub figures : ℕ → List ℕ → List ℕ
figures e ws = first_figures e ws (length ws)

-- The weights of one day of the flat source together.
abbrev pub flat_day : ℕ
flat_day = before (λ t. 10000) 48

pub record WorkedNumbers : Type 0 where
  -- 1 January 2005 is the Saturday of week 1
  pub new_year_2005 : place_on [] (civil 2005 1 1) ≡ place 1 6
  -- 25 December 2005 is the Sunday of week 52, and after week 52 comes week 1
  pub christmas_2005 : place_on [] (civil 2005 12 25) ≡ place 52 7
  pub after_christmas_2005 : place_on [] (civil 2005 12 26) ≡ place 1 1
  -- Monday 30 April 2007 lies before a holiday Tuesday
  pub bridging_day_2007 : place_on (civil 2007 5 1 ∷ []) (civil 2007 4 30) ≡ place 18 6
  -- what rounding holds back comes in the last half-hour
  pub thirds : figures 10 (1 ∷ 1 ∷ 1 ∷ []) ≡ 3 ∷ 3 ∷ 4 ∷ []
  -- a half-hour of weight 0 gets nothing
  pub weighted : figures 5 (0 ∷ 2 ∷ 1 ∷ []) ≡ 0 ∷ 3 ∷ 2 ∷ []
  -- coefficients of 1.205, 0.998 and 1.430
  pub coefficients : product 1205 998 1430 ≡ 17197
  -- that weight at a gradient of 168, a threshold of 15 degrees, 6.1 degrees being normal and 1.0 measured
  pub colder_day : scaled 17197 (factor 168 (colder (pos 150) (pos 61) (pos 10))) ≡ 18670
  -- one flat day at 6 kVA, k 10,000 and theta 0: 144,000 Wh are not extreme, 144,001 are
  pub at_most : extreme 10000 0 6 144000 flat_day ≡ false
  pub over : extreme 10000 0 6 144001 flat_day ≡ true
  -- with theta 6,000: 28,800 Wh are not extreme, 28,799 are
  pub at_least : extreme 10000 6000 6 28800 flat_day ≡ false
  pub under : extreme 10000 6000 6 28799 flat_day ≡ true
