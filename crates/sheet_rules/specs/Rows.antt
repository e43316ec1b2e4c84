-- The rows of a sheet: the parties, then A1 to A5; and which dials have a piece in a cell.
use Rattle.std.specs.Prelude.{◌≡◌, ℕ, ◌+◌, ◌-◌, ◌*◌, List, Some, None, Option}
use Rattle.book_rules.specs.declared.Situation.{Situation}
use Rattle.book_rules.specs.Contents.{Setup}
use Rattle.span_rules.specs.Spans.{Lies}
use Rattle.span_rules.specs.Days.{Metering}
use Rattle.span_rules.specs.Figures.{Judged}
use Rattle.spans.specs.Judging.{Throughout}
use Rattle.sheet_rules.specs.Dials.{Among, WithoutRepeats}

-- How many rows and half-hours a sheet has.
abbrev pub rows : Setup → ℕ
rows u = u.parties + 5

abbrev pub half_hours : Setup → ℕ
half_hours u = 48 * u.days

-- The row of a span over the days a to b - 1: without an anomaly that of the party of the one situation in which its
-- days lie, else that of its first anomaly.
abbrev pub Row : ℕ → Metering → ℕ → ℕ → Option ℕ → ℕ → Type 0
Row parties x a b None r = (c : ℕ) × (y : Situation) × Throughout x.starting a b c y × (y.terms.party ≡ r)
Row parties x a b (Some n) r = r ≡ parties + n - 1

-- A dial has a piece in the cell of row r, half-hour t: it has a span there, of that row.
pub record InCell (parties : ℕ) (x : Metering) (r t : ℕ) : Type 0 where
  pub a : ℕ
  pub b : ℕ
  pub u : ℕ
  pub v : ℕ
  pub n : Option ℕ
  pub judged : Judged x a b u v n
  pub lies : Lies a b t
  pub row : Row parties x a b n r

-- Exactly those dials, each once.
pub record ExactlyThose (parties : ℕ) (of : ℕ → ℕ → Metering) (r t : ℕ) (ds : List (ℕ × ℕ)) : Type 0 where
  pub those : (s k : ℕ) → Among (s, k) ds → InCell parties (of s k) r t
  pub all : (s k : ℕ) → InCell parties (of s k) r t → Among (s, k) ds
  pub once : WithoutRepeats ds
