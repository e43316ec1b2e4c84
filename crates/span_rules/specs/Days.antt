-- The situation of a day of a site, and the weights that a dial has from it.
use Rattle.std.specs.Prelude.{◌≡◌, ℕ, ◌+◌, ◌-◌, ◌*◌, ◌/◌, ◌<◌, ◌≤◌, Bool, true, cond, Some, None, Ok, Err, Option, Result, nat_lt, slice_index}
use Rattle.refusals.specs.declared.Refusal.{Refusal}
use Rattle.factors.specs.declared.Thresholds.{Thresholds}
use Rattle.profiles.specs.declared.Profile.{Profile}
use Rattle.profiles.specs.Table.{profile_of, sub_profile_of}
use Rattle.sharing.specs.Shares.{before}
use Rattle.book_rules.specs.declared.Terms.{Terms}
use Rattle.book_rules.specs.declared.Situation.{Situation}
use Rattle.book_rules.specs.Contents.{Contents}
use Rattle.span_rules.specs.Lasts.{last_before}
use Rattle.span_rules.specs.Spans.{bounding}

abbrev pub not_ended : ℕ → Option ℕ → Bool
not_ended d None = true
not_ended d (Some e) = nat_lt d e

abbrev pub unless_ended : ℕ → Option (ℕ × Situation) → Option (ℕ × Situation)
unless_ended d None = None
unless_ended d (Some v) = cond (not_ended d v.1.end) (Some v) None

-- The situation of a day, with its start: the last that starts by then, unless it has ended. That it is the one that
-- covers the day, the only one, is a law (Laws, Covering).
unfoldable pub serving : (ℕ → Option Situation) → ℕ → Option (ℕ × Situation)
serving starting d = unless_ended d (last_before starting (d + 1))

-- A situation y that starts on day c covers its start day and all days before its end.
pub record Covers (starting : ℕ → Option Situation) (d c : ℕ) (y : Situation) : Type 0 where
  pub starts : starting c ≡ Some y
  pub begun : c ≤ d
  pub not_over : (e : ℕ) → y.end ≡ Some e → d < e

-- The sub-profile of a dial under such terms; none where the profile lacks the dial.
abbrev pub of_profile : Result Profile Refusal → ℕ → Option ℕ
of_profile (Ok p) dial = sub_profile_of p dial
of_profile (Err r) dial = None

unfoldable pub sub_profile_under : Terms → ℕ → Option ℕ
sub_profile_under t dial = of_profile (profile_of t.class t.power) dial

abbrev pub sub_profile_in : Option (ℕ × Situation) → ℕ → Option ℕ
sub_profile_in None dial = None
sub_profile_in (Some v) dial = sub_profile_under v.1.terms dial

-- All that decides on the energy of a dial: the situations of its site by start day, its indexes by day, which of the
-- two dials it is, the weights of a source by sub-profile and half-hour, and a threshold set.
pub record Metering : Type 0 where
  pub starting : ℕ → Option Situation
  pub on : ℕ → Option ℕ
  pub dial : ℕ
  pub weights : ℕ → ℕ → ℕ
  pub k : ℕ
  pub theta : ℕ → ℕ

-- The same of a dial of a site in a book that holds m, under a threshold set.
abbrev pub metering : Contents → (ℕ → ℕ → ℕ) → Thresholds → ℕ → ℕ → Metering
metering m weights thresholds site dial = record {
  starting = m.situation site;
  on = λ d. bounding (m.index site dial d);
  dial = dial;
  weights = weights;
  k = thresholds.k;
  theta = λ p. slice_index thresholds.thetas p;
}

abbrev pub weight_by : (ℕ → ℕ → ℕ) → Option ℕ → ℕ → ℕ
weight_by weights None t = 0
weight_by weights (Some p) t = weights p t

-- The source's weight of half-hour t, which is that of the dial's sub-profile on its day.
unfoldable pub own : Metering → ℕ → ℕ
own x t = weight_by x.weights (sub_profile_in (serving x.starting (t / 48)) x.dial) t

-- Weights counted from half-hour a on.
abbrev pub from : (ℕ → ℕ) → ℕ → ℕ → ℕ
from w a i = w (a + i)

-- S: the source's weights over the days a to b - 1, added.
unfoldable pub own_sum : Metering → ℕ → ℕ → ℕ
own_sum x a b = before (from (own x) (48 * a)) (48 * (b - a))
