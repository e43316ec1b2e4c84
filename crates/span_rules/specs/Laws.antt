-- What follows for the spans of a dial, for every history of calls.
use Rattle.std.specs.Prelude.{◌≡◌, ℕ, ◌+◌, ◌-◌, ◌*◌, ◌<◌, ◌≤◌, Some, None, Option}
use Rattle.sharing.specs.Shares.{before}
use Rattle.sharing.specs.Laws.{Fair}
use Rattle.book_rules.specs.declared.Situation.{Situation}
use Rattle.book_rules.specs.Laws.{Chain}
use Rattle.span_rules.specs.Spans.{Span, Lies, FirstIndex, LastIndex, Ends, Fewer}
use Rattle.span_rules.specs.Days.{Metering, serving, Covers, from}
use Rattle.span_rules.specs.Anomalies.{FirstAnomaly}
use Rattle.span_rules.specs.Figures.{used, Judged, CurveOf}

-- The situation of a day is the one that covers it, where the situations of a site do not overlap.
pub record Covering : Type 0 where
  pub covers : (starting : ℕ → Option Situation) (d c : ℕ) (y : Situation) → serving starting d ≡ Some (c, y) → Covers starting d c y
  pub serves : (days : ℕ) (starting : ℕ → Option Situation) → Chain days starting → (d c : ℕ) (y : Situation) → Covers starting d c y → serving starting d ≡ Some (c, y)

-- Every span has one first anomaly or none.
pub record OneJudgement : Type 0 where
  pub some : (x : Metering) (a b e : ℕ) → (n : Option ℕ) × FirstAnomaly x a b e n
  pub once : (x : Metering) (a b e : ℕ) (m n : Option ℕ) → FirstAnomaly x a b e m → FirstAnomaly x a b e n → m ≡ n

-- A span around a half-hour.
pub record Around (on : ℕ → Option ℕ) (t : ℕ) : Type 0 where
  pub a : ℕ
  pub b : ℕ
  pub u : ℕ
  pub v : ℕ
  pub span : Span on a b u v
  pub lies : Lies a b t

-- Of the half-hours exactly those from the first index to the last lie in a span, and each in one only.
pub record HalfHoursInSpans : Type 0 where
  pub within : (on : ℕ → Option ℕ) (a b u v : ℕ) → Ends on a b u v → (t : ℕ) → Lies a b t → Around on t
  pub only : (on : ℕ → Option ℕ) (a b u v : ℕ) → Ends on a b u v → (c d p q : ℕ) → Span on c d p q → (a ≤ c) × (d ≤ b)
  pub none : (on : ℕ → Option ℕ) → Fewer on → (a b u v : ℕ) → Span on a b u v → ⊥
  pub one : (on : ℕ → Option ℕ) (t a b u v c d p q : ℕ) → Span on a b u v → Lies a b t → Span on c d p q → Lies c d t → (a ≡ c) × (b ≡ d) × (u ≡ p) × (v ≡ q)

-- The indexes never fall with the days.
abbrev pub NeverFall : (ℕ → Option ℕ) → Type 0
NeverFall on = (d e u v : ℕ) → d < e → on d ≡ Some u → on e ≡ Some v → u ≤ v

-- The energies of the spans, each told at the day on which it begins, and 0 on other days.
pub record Energies (on : ℕ → Option ℕ) (energy : ℕ → ℕ) : Type 0 where
  pub of_span : (a b u v : ℕ) → Span on a b u v → energy a ≡ v - u
  pub of_none : (a : ℕ) → ((b u v : ℕ) → Span on a b u v → ⊥) → energy a ≡ 0

-- The energies of a dial's spans, and the figures of its curve, add to the last index less the first.
pub record AddsUp : Type 0 where
  pub spans : (on : ℕ → Option ℕ) (energy : ℕ → ℕ) → NeverFall on → Energies on energy → (a b u v : ℕ) → Ends on a b u v → (n : ℕ) → b ≤ n → before energy n ≡ v - u
  pub figures : (x : Metering) (figures : ℕ → ℕ) → NeverFall x.on → CurveOf x figures → (a b u v : ℕ) → Ends x.on a b u v → (n : ℕ) → 48 * b ≤ n → before figures n ≡ v - u
  pub nothing : (x : Metering) (figures : ℕ → ℕ) → CurveOf x figures → Fewer x.on → (n : ℕ) → before figures n ≡ 0

-- From the start of a span through any half-hour in it the figures never exceed the exact share and fall short of it by
-- less than 1 Wh; together they are its energy. Also under an anomaly, whatever the source's weights.
abbrev pub SpansFair : Type 0
SpansFair = (x : Metering) (a b u v : ℕ) (n : Option ℕ) → Judged x a b u v n → Fair (v - u) (from (used x n) (48 * a)) (48 * (b - a))
