-- What drawing leaves in a table, span by span and dial by dial. The cell of row r, half-hour t stands at place
-- r · half-hours + t. K are amounts, X what they hold.
use Rattle.std.specs.Prelude.{◌≡◌, ℕ, ◌+◌, ◌-◌, ◌*◌, ◌^◌, ◌<◌, ◌≤◌, cond, ◌⊎◌, List, Option, ◌==◌, slice_index_or}
use Rattle.sharing.specs.Shares.{before, figure}
use Rattle.span_rules.specs.Spans.{Span, Lies}
use Rattle.span_rules.specs.Days.{Metering, from}
use Rattle.span_rules.specs.Anomalies.{FirstAnomaly}
use Rattle.span_rules.specs.Figures.{Judged, figure_in}
use Rattle.sheet_rules.specs.Rows.{Row}

-- A cell of this size has room for one more piece.
abbrev pub Room : ℕ → Type 0
Room s = s + 10 ^ 9 ≤ 10 ^ 15

-- An energy e was shared over the half-hours from first to end - 1 by their weights w, which add to s, where it can be
-- shared, and the pieces joined to the cells from place base on; all other cells are as they were.
pub record JoinedOut {K X : Type 0} (holds : K → X) (size : X → ℕ) (piece : ℕ → ℕ → X) (joined : X → X → X) (e s : ℕ) (w : ℕ → ℕ) (first end dial base : ℕ) (old new : List K) : Type 0 where
  pub here : e ≤ 999999999 → 0 < s → s ≤ 1680000000 → s ≡ before (from w first) (end - first) → 1 ≤ dial → dial ≤ 2 → (i : ℕ) → i < end - first → (d : K)
      → Room (size (holds (slice_index_or old (base + (first + i)) d))) → holds (slice_index_or new (base + (first + i)) d) ≡ joined (holds (slice_index_or old (base + (first + i)) d)) (piece (figure e (from w first) (end - first) i) dial)
  pub other : (p : ℕ) → (p < base + first) ⊎ (base + end ≤ p) → (d : K) → slice_index_or new p d ≡ slice_index_or old p d

-- What a cell of row r holds after a piece went to row q.
abbrev pub with_piece : {X : Type 0} → (X → X → X) → X → ℕ → ℕ → X → X
with_piece joined piece q r x = cond (q == r) (joined x piece) x

-- The pieces of one span of energy e over the days a to b - 1 were joined to the cells of its row, where that is one of
-- the table's; all other cells, and all places past the table, are as they were.
pub record SpanDrawn {K X : Type 0} (holds : K → X) (size : X → ℕ) (piece : ℕ → ℕ → X) (joined : X → X → X) (parties rows hs : ℕ) (x : Metering) (a b e : ℕ) (old new : List K) : Type 0 where
  pub here : (n : Option ℕ) (q : ℕ) → FirstAnomaly x a b e n → Row parties x a b n q → q < rows → e ≤ 999999999 → (t : ℕ) → Lies a b t → (r : ℕ) → r < rows → (d : K)
      → Room (size (holds (slice_index_or old (r * hs + t) d))) → holds (slice_index_or new (r * hs + t) d) ≡ with_piece joined (piece (figure_in x a b e n t) x.dial) q r (holds (slice_index_or old (r * hs + t) d))
  pub other : (t : ℕ) → t < hs → (Lies a b t → ⊥) → (r : ℕ) → r < rows → (d : K) → slice_index_or new (r * hs + t) d ≡ slice_index_or old (r * hs + t) d
  pub past : (p : ℕ) → rows * hs ≤ p → (d : K) → slice_index_or new p d ≡ slice_index_or old p d

-- The same of all spans of a dial that begin before day n and end within the days.
pub record DialDrawn {K X : Type 0} (holds : K → X) (size : X → ℕ) (piece : ℕ → ℕ → X) (joined : X → X → X) (parties rows hs : ℕ) (x : Metering) (days n : ℕ) (old new : List K) : Type 0 where
  pub in_spans : (a b u v : ℕ) (j : Option ℕ) (q : ℕ) → Judged x a b u v j → a < n → b ≤ days → v ≤ 999999999 → Row parties x a b j q → q < rows → (t : ℕ) → Lies a b t → (r : ℕ) → r < rows → (d : K)
      → Room (size (holds (slice_index_or old (r * hs + t) d))) → holds (slice_index_or new (r * hs + t) d) ≡ with_piece joined (piece (figure_in x a b (v - u) j t) x.dial) q r (holds (slice_index_or old (r * hs + t) d))
  pub elsewhere : (t : ℕ) → t < hs → ((a b u v : ℕ) → Span x.on a b u v → a < n → b ≤ days → Lies a b t → ⊥) → (r : ℕ) → r < rows → (d : K) → slice_index_or new (r * hs + t) d ≡ slice_index_or old (r * hs + t) d
  pub past : (p : ℕ) → rows * hs ≤ p → (d : K) → slice_index_or new p d ≡ slice_index_or old p d
