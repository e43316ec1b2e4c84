-- What is answered to the question for a curve or a factor.
use Rattle.std.specs.Prelude.{◌≡◌, ℕ, ◌≤◌, cond, List, Some, None, Ok, Err, Option, Result, nat_lt, slice_index}
use Rattle.refusals.specs.declared.Refusal.{Refusal}
use Rattle.refusals.specs.Numbers.{number_of}
use Rattle.book_rules.specs.declared.Call.{Call}
use Rattle.book_rules.specs.Contents.{Setup, Contents}
use Rattle.book_rules.specs.Telling.{Told}
use Rattle.book_rules.specs.Tests.{first}
use Rattle.span_rules.specs.Days.{Metering}
use Rattle.span_rules.specs.Figures.{CurveOf, FactorTold}
use Rattle.spans.specs.Finding.{DaysTold}
use Rattle.curves.specs.Asking.{half_hours, curve_tests, factor_tests}

-- The figures in the first n places; past them there is nothing.
abbrev pub in_places : ℕ → List ℕ → ℕ → ℕ
in_places n figures t = cond (nat_lt t n) (slice_index figures t) 0

-- A curve was written: in the first T places; further places are as they were. For every history that the book stands for
-- they hold the curve of the dial, and the days answered are those of its first and last index.
pub record CurveWritten (u : Setup) (m : Contents) (x : Metering) (old : List ℕ) (days : Option (ℕ × ℕ)) (new : List ℕ) : Type 0 where
  pub past : (t : ℕ) → half_hours u ≤ t → slice_index new t ≡ slice_index old t
  pub told : (h : List Call) → Told u h m → DaysTold x.on days × CurveOf x (in_places (half_hours u) new)

-- What the question for a curve answers, and what it leaves in the places: with a refusal all as it was.
abbrev pub CurveAnswer : Setup → Contents → Metering → ℕ → ℕ → ℕ → ℕ → List ℕ → Result (Option (ℕ × ℕ)) Refusal → List ℕ → Type 0
CurveAnswer u m x covered places site dial old (Ok days) new = (first (curve_tests u covered places site dial) ≡ None) × CurveWritten u m x old days new
CurveAnswer u m x covered places site dial old (Err r) new = (first (curve_tests u covered places site dial) ≡ Some (number_of r)) × (new ≡ old)

-- What the question for a factor answers: for every history that the book stands for, the factor of the span around
-- the day, or nothing.
abbrev pub FactorAnswer : Setup → Contents → Metering → ℕ → ℕ → ℕ → ℕ → Result (Option (ℕ × ℕ)) Refusal → Type 0
FactorAnswer u m x covered site dial day (Ok factor) = (first (factor_tests u covered site dial day) ≡ None) × ((h : List Call) → Told u h m → FactorTold x day factor)
FactorAnswer u m x covered site dial day (Err r) = first (factor_tests u covered site dial day) ≡ Some (number_of r)
