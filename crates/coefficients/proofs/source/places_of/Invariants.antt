use Rattle.std.proofs.Common.{◌≡◌, ℕ, ◌+◌, ◌<◌, length}
use Rattle.calendar.specs.Places.{place_at}
use Rattle.coefficients.specs.Weights.{day_place}
use Rattle.coefficients.proofs.source.places_of.Given as goal

pub record invariant-loop-date (l : goal.Live-loop-date) : Type 0 where
  pub count : l.fn.first + length l.places.items ≡ l.date
  pub placed : (k : ℕ) → k < length l.places.items → day_place l.places.items k ≡ place_at l.fn.holidays (l.fn.first + k)
