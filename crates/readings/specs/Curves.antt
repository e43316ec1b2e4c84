-- The span between two readings, and its curve by the weights of a profile source.
use Rattle.std.specs.Prelude.{◌≡◌, ℕ, ◌-◌, ◌*◌, ◌<◌, Bool, true, false, cond, ◌&&◌, List, length, Some, None, Option, ◌==◌, nat_le, nat_lt, slice_index}
use Rattle.sharing.specs.Shares.{before, figure}
use Rattle.sharing.specs.Laws.{Fair}
use Rattle.readings.specs.declared.Problem.{Problem}
use Rattle.readings.specs.declared.Problem.TheVariants.{NotLater, TooManyDays, IndexFalls, IndexTooLarge}
use Rattle.readings.specs.declared.Reading.{Reading}

-- Why two readings bound no span: of several reasons the upper one is told.
abbrev pub problem_between : Reading → Reading → Option Problem
problem_between first last =
    cond (nat_le last.date first.date) (Some NotLater)
    (cond (nat_lt 35 (last.date - first.date)) (Some TooManyDays)
    (cond (nat_lt last.index first.index) (Some IndexFalls)
    (cond (nat_lt 999999999 last.index) (Some IndexTooLarge)
    None)))

-- Half-hours and energy between two readings.
abbrev pub half_hours_between : Reading → Reading → ℕ
half_hours_between first last = 48 * (last.date - first.date)

abbrev pub energy_between : Reading → Reading → ℕ
energy_between first last = last.index - first.index

-- A source of these weights can share an energy over n half-hours: it covers just those, knows the sub-profile, and the
-- sub-profile's weights are not all 0.
abbrev pub drawable : ℕ → (ℕ → ℕ → ℕ) → ℕ → ℕ → Bool
drawable covered weights sub n = covered == n && nat_le sub 7 && nat_lt 0 (before (weights sub) n)

-- A list holds the curve of energy e over n half-hours of weights w: one figure for each.
pub record Curve (e : ℕ) (w : ℕ → ℕ) (n : ℕ) (curve : List ℕ) : Type 0 where
  pub long : length curve ≡ n
  pub figures : (t : ℕ) → t < n → slice_index curve t ≡ figure e w n t
  pub fair : Fair e w n

-- What a source answers of the span between two readings: nothing, or its curve.
abbrev pub DrawnBy : ℕ → (ℕ → ℕ → ℕ) → ℕ → Reading → Reading → Option (List ℕ) → Type 0
DrawnBy covered weights sub first last None = drawable covered weights sub (half_hours_between first last) ≡ false
DrawnBy covered weights sub first last (Some curve) =
    (drawable covered weights sub (half_hours_between first last) ≡ true)
    × Curve (energy_between first last) (weights sub) (half_hours_between first last) curve
