-- The figures of spans, written into the places of their half-hours.
use Rattle.std.specs.Prelude.{◌≡◌, ℕ, ◌-◌, ◌*◌, ◌<◌, ◌≤◌, List, length, Option, slice_index}
use Rattle.sharing.specs.Shares.{figure, weighed, total}
use Rattle.span_rules.specs.Spans.{Span, Lies}
use Rattle.span_rules.specs.Days.{Metering}
use Rattle.span_rules.specs.Anomalies.{FirstAnomaly}
use Rattle.span_rules.specs.Figures.{Judged, figure_in}

-- An energy was shared over half-hours by their weights, which add to s, where it can be shared.
abbrev pub SharedOut : ℕ → ℕ → List ℕ → List ℕ → Type 0
SharedOut e s weights new =
    e ≤ 999999999 → 0 < s → s ≤ 1680000000 → s ≡ total weights → (i : ℕ) → i < length weights → slice_index new i ≡ figure e (weighed weights) (length weights) i

-- The first places hold 0, the others are as they were.
pub record Cleared (count : ℕ) (old new : List ℕ) : Type 0 where
  pub zeros : (t : ℕ) → t < count → slice_index new t ≡ 0
  pub other : (t : ℕ) → count ≤ t → slice_index new t ≡ slice_index old t

-- The figures of one span of energy e over the days a to b - 1 were written; all other places are as they were.
pub record SpanWritten (x : Metering) (a b e : ℕ) (old new : List ℕ) : Type 0 where
  pub here : (n : Option ℕ) → FirstAnomaly x a b e n → e ≤ 999999999 → (t : ℕ) → Lies a b t → slice_index new t ≡ figure_in x a b e n t
  pub other : (t : ℕ) → (Lies a b t → ⊥) → slice_index new t ≡ slice_index old t

-- The figures of the spans that begin before day n and end within the days were written, and 0 elsewhere; places past
-- the days are as they were.
pub record SpansWritten (x : Metering) (days n : ℕ) (old new : List ℕ) : Type 0 where
  pub in_spans : (a b u v : ℕ) (j : Option ℕ) → Judged x a b u v j → a < n → b ≤ days → v ≤ 999999999 → (t : ℕ) → Lies a b t → slice_index new t ≡ figure_in x a b (v - u) j t
  pub elsewhere : (t : ℕ) → t < 48 * days → ((a b u v : ℕ) → Span x.on a b u v → a < n → b ≤ days → Lies a b t → ⊥) → slice_index new t ≡ 0
  pub past : (t : ℕ) → 48 * days ≤ t → slice_index new t ≡ slice_index old t
