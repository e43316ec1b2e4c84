-- The party and the weights of a span, from its grounds. Assumes nothing.
use Rattle.std.proofs.Common.{◌≡◌, ℕ, ◌+◌, ◌-◌, ◌*◌, ◌<◌, ◌≤◌, List, get_or, Some, None, Ok, Err, Option, sym, refl, ap, ◌∙◌, subst, arith}
use Rattle.sharing.specs.Shares.{before}
use Rattle.span_rules.specs.Days.{Metering, own_sum, from}
use Rattle.span_rules.specs.Anomalies.{FirstAnomaly}
use Rattle.span_rules.specs.Figures.{used}
use Rattle.span_rules.proofs.Sums.{before_same, before_ones}
use Rattle.spans.specs.declared.Anomaly.{Anomaly}
use Rattle.spans.specs.declared.Grounds.{Grounds}
use Rattle.spans.specs.Numbers.{number_of, numbered}
use Rattle.spans.specs.Judging.{Grounded, anomaly_by, unless_found}
use Rattle.spans.proofs.Judged.{with_grounds, own_by, own_sum_by}
use Rattle.judgements.specs.declared.Judgement.{Judgement}
use Rattle.judgements.specs.Judgements.{Weighed, OfParty, OwnWeights, WeighedFor, JudgedSo}

-- what the check of the grounds told
pub found_of : (o : Option Anomaly) (n : Anomaly) → Err n ≡ unless_found o → Some n ≡ o
found_of None n h = cc
found_of (Some m) n h = cc

pub none_of : (o : Option Anomaly) → Ok tt ≡ unless_found o → None ≡ o
none_of None h = refl
none_of (Some m) h = cc

module _ (x : Metering) (a b e : ℕ) (lt : a < b) (g : Grounds) (on : Grounded x.starting x.dial a b g) (ws : List ℕ) (s : ℕ) (h : Weighed (x.weights g.sub_profile) (48 * a) (48 * b) ws s) where
  sum_is : s ≡ own_sum x a b
  sum_is = h.sum ∙ (ap (before (from (x.weights g.sub_profile) (48 * a))) (let k : 48 * b - 48 * a ≡ 48 * (b - a) = omega arith in k) ∙ sym (own_sum_by x a b g on))

  pub first_by : (o : Option Anomaly) → o ≡ anomaly_by x.k x.theta g e s → FirstAnomaly x a b e (numbered o)
  first_by o is =
      subst (λ (p : Option Anomaly). FirstAnomaly x a b e (numbered p)) (sym (is ∙ ap (anomaly_by x.k x.theta g e) sum_is)) (with_grounds x a b e lt g on)

  pub of_party : OfParty x a b g.party
  of_party d lo hi = (on.start, on.situation, on.throughout d lo hi, sym on.party)

  pub own_weights : WeighedFor x a b None ws s
  own_weights = record {
    places = λ t lo hi. h.places t lo hi ∙ sym (own_by x a b g on t (record { begun = lo; not_over = hi }));
    sum = h.sum ∙ sym (before_same _ _ (48 * b - 48 * a) (λ i k. own_by x a b g on (48 * a + i) (record { begun = omega arith; not_over = omega arith })));
  }

-- 1 for each half-hour
pub ones : (x : Metering) (a b n : ℕ) (ws : List ℕ) → ((t : ℕ) → 48 * a ≤ t → t < 48 * b → get_or ws t 0 ≡ 1) → WeighedFor x a b (Some n) ws (48 * b - 48 * a)
ones x a b n ws h = record { places = h; sum = sym (before_ones (from (used x (Some n)) (48 * a)) (48 * b - 48 * a) (λ t. refl)) }

-- the judgement on a span with an anomaly
pub anomaly_judged : (x : Metering) (a b e : ℕ) (old ws : List ℕ) (n : Anomaly) (s : ℕ) → OwnWeights x a b e old (Err n) → ((t : ℕ) → 48 * a ≤ t → t < 48 * b → get_or ws t 0 ≡ 1) → s ≡ 48 * b - 48 * a → b ≤ 35 → JudgedSo x a b e ws (record { account = Err n; all = s })
anomaly_judged x a b e old ws n s h one is le = record {
  first = h;
  party = tt;
  weighed = subst (λ (k : ℕ). WeighedFor x a b (Some (number_of n)) ws k) (sym is) (ones x a b (number_of n) ws one);
  bound = omega arith;
}

pub judged_at : (x : Metering) (a b c d e : ℕ) (ws : List ℕ) (j : Judgement) → a ≡ c → b ≡ d → JudgedSo x a b e ws j → JudgedSo x c d e ws j
judged_at x a b c d e ws j p q h = subst (λ (k : ℕ). JudgedSo x k d e ws j) p (subst (λ (k : ℕ). JudgedSo x a k e ws j) q h)
