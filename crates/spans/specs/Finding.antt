-- The span of a dial that begins on a day.
use Rattle.std.specs.Prelude.{◌≡◌, ℕ, ◌-◌, ◌<◌, ◌≤◌, cond, Some, None, Option, nat_lt}
use Rattle.book_rules.specs.Contents.{Contents}
use Rattle.book.specs.Books.{contents}
use Rattle.span_rules.specs.Spans.{bounding, Span, Ends, Fewer}
use Rattle.spans.specs.declared.SiteDial.{SiteDial}
use Rattle.spans.specs.declared.DialSpan.{DialSpan}

-- The indexes of a dial that bound spans, by day.
abbrev pub track : Contents → ℕ → ℕ → ℕ → Option ℕ
track m site dial d = bounding (m.index site dial d)

-- Those of a dial of a site in a book.
abbrev pub indexes_of : SiteDial → ℕ → Option ℕ
indexes_of d = track (contents d.book.now) d.site d.dial

-- The span from an index of day a to the one that stands on day b, if one does.
abbrev pub ending : Option ℕ → ℕ → ℕ → ℕ → Option DialSpan
ending None a u b = None
ending (Some v) a u b = Some (record { from = a; to = b; energy = v - u })

-- It runs from its first day to its last, which is no later than the end of the days, and has the energy between.
pub record Found (on : ℕ → Option ℕ) (days day : ℕ) (s : DialSpan) : Type 0 where
  pub u : ℕ
  pub v : ℕ
  pub span : Span on s.from s.to u v
  pub begins : s.from ≡ day
  pub within : s.to ≤ days
  pub energy : s.energy ≡ v - u

-- Such a span, or nothing where none begins on that day.
abbrev pub Begins : (ℕ → Option ℕ) → ℕ → ℕ → Option DialSpan → Type 0
Begins on days day (Some s) = Found on days day s
Begins on days day None = (b u v : ℕ) → b ≤ days → Span on day b u v → ⊥

-- A span whose days hold a day, or nothing where there is none.
pub record FoundAround (on : ℕ → Option ℕ) (days day : ℕ) (s : DialSpan) : Type 0 where
  pub u : ℕ
  pub v : ℕ
  pub span : Span on s.from s.to u v
  pub begun : s.from ≤ day
  pub not_over : day < s.to
  pub within : s.to ≤ days
  pub energy : s.energy ≡ v - u

abbrev pub HoldingDay : (ℕ → Option ℕ) → ℕ → ℕ → Option DialSpan → Type 0
HoldingDay on days day (Some s) = FoundAround on days day s
HoldingDay on days day None = (a b u v : ℕ) → b ≤ days → Span on a b u v → a ≤ day → day < b → ⊥

-- The span that begins on day a, if it runs past another day.
unfoldable pub RunsPast : (ℕ → Option ℕ) → ℕ → ℕ → ℕ → Option DialSpan → Type 0
RunsPast on days day a (Some s) = Found on days a s × day < s.to
RunsPast on days day a None = (b u v : ℕ) → b ≤ days → Span on a b u v → day < b → ⊥

-- All indexes lie within the days.
abbrev pub WithinDays : (ℕ → Option ℕ) → ℕ → Type 0
WithinDays on days = (d : ℕ) → days < d → on d ≡ None

-- The days of the first and the last index, or nothing where fewer than two stand.
abbrev pub DaysTold : (ℕ → Option ℕ) → Option (ℕ × ℕ) → Type 0
DaysTold on (Some p) = (u : ℕ) × (v : ℕ) × Ends on p.0 p.1 u v
DaysTold on None = Fewer on

-- The first and the last day on which an index was seen, with one more day.
abbrev pub seen_with : ℕ → Option ℕ → Option (ℕ × ℕ) → Option (ℕ × ℕ)
seen_with day None seen = seen
seen_with day (Some v) None = Some (day, day)
seen_with day (Some v) (Some p) = Some (p.0, day)

-- Those days, if they are two.
abbrev pub two_of : Option (ℕ × ℕ) → Option (ℕ × ℕ)
two_of None = None
two_of (Some p) = cond (nat_lt p.0 p.1) (Some p) None
