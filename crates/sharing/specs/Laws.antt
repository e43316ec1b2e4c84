-- The laws of sharing. Nothing above looks inside the running share: it is used by these laws alone.
use Rattle.std.specs.Prelude.{◌≡◌, ℕ, ◌+◌, ◌*◌, ◌<◌, ◌≤◌}
use Rattle.sharing.specs.Shares.{before, running_share, figure}

-- The running share starts at 0, ends at E, never falls, never exceeds the exact share E·W/S and falls short of it by
-- less than 1 Wh. The last two are said without fractions: both sides are multiplied by S.
pub record RunningLaws : Type 0 where
  pub starts : (e s : ℕ) → running_share e s 0 ≡ 0
  pub ends : (e s : ℕ) → 0 < s → running_share e s s ≡ e
  pub never_falls : (e s u v : ℕ) → 0 < s → u ≤ v → running_share e s u ≤ running_share e s v
  pub never_above : (e s w : ℕ) → running_share e s w * s ≤ e * w
  pub short_by_less : (e s w : ℕ) → 0 < s → e * w < (running_share e s w + 1) * s

-- Of a span of n half-hours whose weights w are not all 0: the figures are what the running share gains, they add up
-- to E, none exceeds E; and from the start through any half-hour (before t, where t - 1 is the last one added) they
-- never exceed the exact share and fall short of it by less than 1 Wh.
pub record Fair (e : ℕ) (w : ℕ → ℕ) (n : ℕ) : Type 0 where
  pub run : (t : ℕ) → before (figure e w n) t ≡ running_share e (before w n) (before w t)
  pub adds_up : before (figure e w n) n ≡ e
  pub at_most : (t : ℕ) → t < n → figure e w n t ≤ e
  pub never_above : (t : ℕ) → before (figure e w n) t * before w n ≤ e * before w t
  pub short_by_less : (t : ℕ) → e * before w t < (before (figure e w n) t + 1) * before w n

abbrev pub EverySpanFair : Type 0
EverySpanFair = (e : ℕ) (w : ℕ → ℕ) (n : ℕ) → 0 < before w n → Fair e w n
