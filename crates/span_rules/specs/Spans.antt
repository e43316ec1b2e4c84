-- The spans of a dial: between which of its indexes its energy lies. Indexes are told by day.
use Rattle.std.specs.Prelude.{◌≡◌, ℕ, ◌*◌, ◌<◌, ◌≤◌, Some, None, Option, ◌≢◌}
use Rattle.book_rules.specs.declared.Index.{Index}

-- Every index that stands bounds spans, by its value in Wh.
abbrev pub bounding : Option Index → Option ℕ
bounding None = None
bounding (Some x) = Some x.value

-- A span runs between two indexes with none between: u on day a and v on day b. Its days are a to b - 1; the day of the
-- later index is none of them. Its energy is v - u.
pub record Span (on : ℕ → Option ℕ) (a b u v : ℕ) : Type 0 where
  pub forward : a < b
  pub first : on a ≡ Some u
  pub last : on b ≡ Some v
  pub none_between : (d : ℕ) → a < d → d < b → on d ≡ None

-- Half-hour t, counted from that of day 0 at midnight, lies on one of the days a to b - 1.
pub record Lies (a b t : ℕ) : Type 0 where
  pub begun : 48 * a ≤ t
  pub not_over : t < 48 * b

-- The first index and the last, by day.
pub record FirstIndex (on : ℕ → Option ℕ) (a u : ℕ) : Type 0 where
  pub stands : on a ≡ Some u
  pub none_before : (d : ℕ) → d < a → on d ≡ None

pub record LastIndex (on : ℕ → Option ℕ) (b v : ℕ) : Type 0 where
  pub stands : on b ≡ Some v
  pub none_after : (d : ℕ) → b < d → on d ≡ None

-- At least two indexes stand: u on day a is the first, v on day b the last.
pub record Ends (on : ℕ → Option ℕ) (a b u v : ℕ) : Type 0 where
  pub first : FirstIndex on a u
  pub last : LastIndex on b v
  pub apart : a < b

-- Fewer than two indexes stand.
abbrev pub Fewer : (ℕ → Option ℕ) → Type 0
Fewer on = (a b u v : ℕ) → a < b → on a ≡ Some u → on b ≢ Some v
