-- Why a curve or a factor is refused: the numbers in their order, each with its condition.
use Rattle.std.specs.Prelude.{ℕ, ◌*◌, Bool, not, ◌||◌, List, [], ◌∷◌, ◌==◌, nat_le, nat_lt}
use Rattle.book_rules.specs.Contents.{Setup}

-- The half-hours of a book's days.
abbrev pub half_hours : Setup → ℕ
half_hours u = 48 * u.days

abbrev pub strange_dial : ℕ → Bool
strange_dial dial = nat_lt dial 1 || nat_lt 2 dial

-- 12: no such dial; 18: the source covers other half-hours.
abbrev pub metering_tests : Setup → ℕ → ℕ → List (ℕ × Bool)
metering_tests u covered dial = (12, strange_dial dial) ∷ (18, not (covered == half_hours u)) ∷ []

-- 2: fewer places than half-hours; 3: no such site.
abbrev pub curve_tests : Setup → ℕ → ℕ → ℕ → ℕ → List (ℕ × Bool)
curve_tests u covered places site dial = (2, nat_lt places (half_hours u)) ∷ (3, nat_le u.sites site) ∷ metering_tests u covered dial

-- 3: no such site; 5: the day is over D - 1.
abbrev pub factor_tests : Setup → ℕ → ℕ → ℕ → ℕ → List (ℕ × Bool)
factor_tests u covered site dial day = (3, nat_le u.sites site) ∷ (5, nat_le u.days day) ∷ metering_tests u covered dial
