-- The figures of a span by the weights in their places are those of the rules. Assumes nothing.
use Rattle.std.proofs.Common.{◌≡◌, ℕ, ◌+◌, ◌-◌, ◌*◌, ◌<◌, List, get_or, Option, sym, ap, ◌∙◌, subst, arith}
use Rattle.sharing.specs.Shares.{before, figure}
use Rattle.span_rules.specs.Days.{Metering, from}
use Rattle.span_rules.specs.Anomalies.{FirstAnomaly}
use Rattle.span_rules.specs.Figures.{used, figure_in}
use Rattle.span_rules.proofs.Sums.{before_same}
use Rattle.span_rules.proofs.Judging.{one_judgement}
use Rattle.span_rules.proofs.Curves.{figure_same, figure_in_is, used_some}
use Rattle.judgements.specs.declared.Judgement.{Judgement}
use Rattle.judgements.specs.Judgements.{JudgedSo, anomaly_in}

module _ (x : Metering) (a b e : ℕ) (ws : List ℕ) (j : Judgement) where
  -- the weights in the places, as a function
  abbrev pub placed : ℕ → ℕ
  placed t = get_or ws t 0

  size : 48 * b - 48 * a ≡ 48 * (b - a)
  size = omega arith

  pub weights_all : JudgedSo x a b e ws j → j.all ≡ before (from placed (48 * a)) (48 * b - 48 * a)
  weights_all h = h.weighed.sum ∙ before_same _ _ (48 * b - 48 * a) (λ i lt. sym (h.weighed.places (48 * a + i) (omega arith) (omega arith)))

  pub weights_some : a < b → JudgedSo x a b e ws j → 0 < j.all
  weights_some lt h = subst (λ (k : ℕ). 0 < k) (sym (h.weighed.sum ∙ ap (before (from (used x (anomaly_in j.account)) (48 * a))) size)) (used_some x a b e (anomaly_in j.account) lt h.first)

  pub figure_by_weights : a < b → JudgedSo x a b e ws j → (n : Option ℕ) → FirstAnomaly x a b e n → (i : ℕ) → i < 48 * b - 48 * a → figure e (from placed (48 * a)) (48 * b - 48 * a) i ≡ figure_in x a b e n (48 * a + i)
  figure_by_weights lt h n first i le =
      let same : anomaly_in j.account ≡ n = one_judgement.once x a b e (anomaly_in j.account) n h.first first in
      figure_same e _ (from (used x (anomaly_in j.account)) (48 * a)) (48 * b - 48 * a) i (λ k l. h.weighed.places (48 * a + k) (omega arith) (omega arith)) le
      ∙ (ap (λ (k : ℕ). figure e (from (used x (anomaly_in j.account)) (48 * a)) k i) size
      ∙ (ap (λ (o : Option ℕ). figure e (from (used x o) (48 * a)) (48 * (b - a)) i) same ∙ sym (figure_in_is x a b e n i)))
