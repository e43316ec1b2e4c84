-- The account that a sheet is: what its cells hold and add up to. Amounts hold values of X.
use Rattle.std.specs.Prelude.{◌≡◌, ℕ, zero, suc, ◌+◌, ◌-◌, ◌*◌, ◌<◌, ◌≤◌, List, ℤ, pos, ◌+ℤ◌, fold, Option}
use Rattle.sharing.specs.Shares.{before}
use Rattle.factors.specs.declared.Thresholds.{Thresholds}
use Rattle.book_rules.specs.Contents.{Setup, Contents}
use Rattle.span_rules.specs.Spans.{Lies, Ends, Fewer}
use Rattle.span_rules.specs.Days.{Metering, metering, from}
use Rattle.span_rules.specs.Figures.{used, Judged, figure_in, CurveOf}
use Rattle.sheet_rules.specs.Rows.{rows, half_hours, ExactlyThose}

-- The sum of f over the places before n.
unfoldable pub sum_before : (ℕ → ℤ) → ℕ → ℤ
sum_before f zero = pos 0
sum_before f (suc n) = sum_before f n +ℤ f n

-- What a dial counted: its last index less its first; nothing with fewer than two.
pub record Counted (on : ℕ → Option ℕ) (c : ℕ) : Type 0 where
  pub two : (a b u v : ℕ) → Ends on a b u v → c ≡ v - u
  pub fewer : Fewer on → c ≡ 0

-- The pieces of dials at half-hour t, each made of the dial's figure there and the dial, joined.
abbrev pub pieces : {X : Type 0} → X → (ℕ → ℕ → X) → (X → X → X) → (ℕ → ℕ → ℕ → ℕ) → ℕ → List (ℕ × ℕ) → X
pieces nil piece joined figures t ds = fold (λ x d. joined x (piece (figures d.0 d.1 t) d.1)) nil ds

-- From the start of a span of energy e through half-hour t, the figures added up (F) never exceed the exact share before
-- t + 1, which is e·W/S, and fall short of it by less than 1 Wh; both said without fractions. W is the sum of the weights
-- used before t + 1, S that of all.
pub record FollowsShare (x : Metering) (a b e : ℕ) (n : Option ℕ) (t : ℕ) : Type 0 where
  pub never_above : before (from (figure_in x a b e n) (48 * a)) (t + 1 - 48 * a) * before (from (used x n) (48 * a)) (48 * (b - a)) ≤ e * before (from (used x n) (48 * a)) (t + 1 - 48 * a)
  pub short_by_less : e * before (from (used x n) (48 * a)) (t + 1 - 48 * a) < (before (from (figure_in x a b e n) (48 * a)) (t + 1 - 48 * a) + 1) * before (from (used x n) (48 * a)) (48 * (b - a))

-- A sheet with these cells is an account of a book that was set up with u and holds m, by a source's weights w and a
-- threshold set th.
pub record Account {X : Type 0} (nil : X) (piece : ℕ → ℕ → X) (joined : X → X → X) (energy : X → ℤ) (u : Setup) (m : Contents) (w : ℕ → ℕ → ℕ) (th : Thresholds) (cell : ℕ → ℕ → X) : Type 0 where
  -- its cells' energies together are what the dials counted
  pub adds_up : (counted : ℕ → ℕ → ℕ) → ((s k : ℕ) → Counted (metering m w th s k).on (counted s k)) → sum_before (λ r. sum_before (λ t. energy (cell r t)) (half_hours u)) (rows u) ≡ pos (before (λ s. counted s 1 + counted s 2) u.sites)
  -- each cell joins one piece each of exactly the dials that have one there, in whatever order they are listed; and they
  -- can be listed
  pub joins : (figures : ℕ → ℕ → ℕ → ℕ) → ((s k : ℕ) → CurveOf (metering m w th s k) (figures s k)) → (r t : ℕ) → r < rows u → t < half_hours u → (ds : List (ℕ × ℕ)) → ExactlyThose u.parties (metering m w th) r t ds → cell r t ≡ pieces nil piece joined figures t ds
  pub listed : (r t : ℕ) → r < rows u → t < half_hours u → (ds : List (ℕ × ℕ)) × ExactlyThose u.parties (metering m w th) r t ds
  -- the figures of every span follow the exact share
  pub follows : (s k a b p q : ℕ) (n : Option ℕ) → Judged (metering m w th s k) a b p q n → (t : ℕ) → Lies a b t → FollowsShare (metering m w th s k) a b (q - p) n t
  -- every dial has a curve and has counted something, so that the above speaks of all
  pub curves : (s k : ℕ) → (f : ℕ → ℕ) × CurveOf (metering m w th s k) f
  pub counts : (s k : ℕ) → (c : ℕ) × Counted (metering m w th s k).on c
