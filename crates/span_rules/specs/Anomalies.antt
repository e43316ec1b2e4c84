-- The anomalies of a span: why its energy goes to no party.
use Rattle.std.specs.Prelude.{◌≡◌, ℕ, ◌+◌, ◌<◌, ◌≤◌, Some, None, Option, ◌≢◌}
use Rattle.factors.specs.Extremes.{Extreme}
use Rattle.book_rules.specs.declared.Situation.{Situation}
use Rattle.book_rules.specs.Refusing.{Upper}
use Rattle.span_rules.specs.Days.{Metering, serving, sub_profile_under, own_sum}

-- An anomaly holds of a span of energy e over the days a to b - 1: A1 to A5 by their numbers.
pub data Holds (x : Metering) (a b e : ℕ) : ℕ → Type 0 where
  -- some day has no situation
  no_situation : (d : ℕ) → a ≤ d → d < b → serving x.starting d ≡ None → Holds x a b e 1
  -- its days lie in several situations: two of them in situations that start on different days
  several : (c d p q : ℕ) (y z : Situation) → a ≤ c → c < b → a ≤ d → d < b → serving x.starting c ≡ Some (p, y) → serving x.starting d ≡ Some (q, z) → (p ≢ q) → Holds x a b e 2
  -- the profile of some day lacks the dial
  no_dial : (d c : ℕ) (y : Situation) → a ≤ d → d < b → serving x.starting d ≡ Some (c, y) → sub_profile_under y.terms x.dial ≡ None → Holds x a b e 3
  -- the source's weights add to 0
  zero_weight : own_sum x a b ≡ 0 → Holds x a b e 4
  -- the usage factor is extreme for the power and the theta of some day
  extreme_factor : (d c p : ℕ) (y : Situation) → a ≤ d → d < b → serving x.starting d ≡ Some (c, y) → sub_profile_under y.terms x.dial ≡ Some p → Extreme x.k (x.theta p) y.terms.power e (own_sum x a b) → Holds x a b e 5

-- The first anomaly of a span, if any holds.
abbrev pub FirstAnomaly : Metering → ℕ → ℕ → ℕ → Option ℕ → Type 0
FirstAnomaly x a b e n = Upper (Holds x a b e) n
