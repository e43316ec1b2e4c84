-- The last one of what is told by day.
use Rattle.std.specs.Prelude.{ℕ, zero, suc, Some, None, Option}

abbrev pub later : {X : Type 0} → ℕ → Option X → Option (ℕ × X) → Option (ℕ × X)
later d None earlier = earlier
later d (Some x) earlier = Some (d, x)

-- The last one before a day, with its own day.
unfoldable pub last_before : {X : Type 0} → (ℕ → Option X) → ℕ → Option (ℕ × X)
last_before f zero = None
last_before f (suc d) = later d (f d) (last_before f d)
