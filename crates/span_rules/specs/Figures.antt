-- The half-hourly figures of a dial, and its usage factor.
use Rattle.std.specs.Prelude.{◌≡◌, ℕ, ◌+◌, ◌-◌, ◌*◌, ◌<◌, ◌≤◌, Some, None, Option}
use Rattle.sharing.specs.Shares.{figure}
use Rattle.factors.specs.Extremes.{usage_factor}
use Rattle.span_rules.specs.Spans.{Span, Lies}
use Rattle.span_rules.specs.Days.{Metering, own, own_sum, from}
use Rattle.span_rules.specs.Anomalies.{FirstAnomaly}

-- The weights used for a span: the source's, or 1 for each half-hour under an anomaly.
abbrev pub used : Metering → Option ℕ → ℕ → ℕ
used x None t = own x t
used x (Some n) t = 1

-- A span of a dial with its first anomaly, if it has one.
pub record Judged (x : Metering) (a b u v : ℕ) (n : Option ℕ) : Type 0 where
  pub span : Span x.on a b u v
  pub first : FirstAnomaly x a b (v - u) n

-- The figure of half-hour t of a span of energy e over the days a to b - 1, under its first anomaly n.
unfoldable pub figure_in : Metering → ℕ → ℕ → ℕ → Option ℕ → ℕ → ℕ
figure_in x a b e n t = figure e (from (used x n) (48 * a)) (48 * (b - a)) (t - 48 * a)

-- The curve of a dial: in each half-hour of a span its figure, elsewhere 0.
pub record CurveOf (x : Metering) (figures : ℕ → ℕ) : Type 0 where
  pub in_spans : (a b u v : ℕ) (n : Option ℕ) → Judged x a b u v n → (t : ℕ) → Lies a b t → figures t ≡ figure_in x a b (v - u) n t
  pub elsewhere : (t : ℕ) → ((a b u v : ℕ) → Span x.on a b u v → Lies a b t → ⊥) → figures t ≡ 0

-- The usage factor of the span around a day: a span without anomaly whose days hold it.
pub record FactorOf (x : Metering) (day : ℕ) (factor : ℕ × ℕ) : Type 0 where
  pub a : ℕ
  pub b : ℕ
  pub u : ℕ
  pub v : ℕ
  pub judged : Judged x a b u v None
  pub begun : a ≤ day
  pub not_over : day < b
  pub pair : factor ≡ usage_factor (v - u) (own_sum x a b)

-- What is told of it: the pair, or nothing without a span or under an anomaly.
abbrev pub FactorTold : Metering → ℕ → Option (ℕ × ℕ) → Type 0
FactorTold x day (Some factor) = FactorOf x day factor
FactorTold x day None = (a b u v : ℕ) → Judged x a b u v None → a ≤ day → day < b → ⊥
