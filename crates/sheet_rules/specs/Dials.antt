-- Dials, each by its site and its number there, and lists of them.
use Rattle.std.specs.Prelude.{◌≡◌, ℕ, ◌⊎◌, List, [], ◌∷◌}

-- A dial stands in a list.
abbrev pub Among : ℕ × ℕ → List (ℕ × ℕ) → Type 0
Among d [] = ⊥
Among d (e ∷ es) = (d ≡ e) ⊎ Among d es

-- None stands in it twice.
abbrev pub WithoutRepeats : List (ℕ × ℕ) → Type 0
WithoutRepeats [] = Unit {0}
WithoutRepeats (d ∷ ds) = (Among d ds → ⊥) × WithoutRepeats ds
