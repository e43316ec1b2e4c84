-- The usage factor of the span around a day, by its judgement. Assumes nothing.
use Rattle.std.proofs.Common.{◌≡◌, ℕ, ◌-◌, ◌*◌, List, Some, None, Ok, Err, Result, sym, refl, ap, ◌∙◌, subst, arith}
use Rattle.sharing.specs.Shares.{before}
use Rattle.factors.specs.Extremes.{usage_factor}
use Rattle.span_rules.specs.Days.{Metering, own, own_sum, from}
use Rattle.span_rules.specs.Anomalies.{FirstAnomaly}
use Rattle.span_rules.specs.Figures.{FactorOf, FactorTold}
use Rattle.span_rules.proofs.Tracks.{one, differ}
use Rattle.span_rules.proofs.Judging.{one_judgement}
use Rattle.span_rules.proofs.Curves.{own_sum_is}
use Rattle.span_rules.proofs.Steps.{Tracked}
use Rattle.spans.specs.declared.Anomaly.{Anomaly}
use Rattle.spans.specs.declared.DialSpan.{DialSpan}
use Rattle.spans.specs.Numbers.{number_of}
use Rattle.spans.specs.Finding.{FoundAround, HoldingDay}
use Rattle.judgements.specs.declared.Judgement.{Judgement}
use Rattle.judgements.specs.Judgements.{JudgedSo, anomaly_in, WeighedFor}

module _ (x : Metering) (days day : ℕ) where
  pub factor_none : Tracked days x.on → HoldingDay x.on days day None → FactorTold x day None
  factor_none track none a b u v judged begun not_over = none a b u v (track.within b v judged.span.last) judged.span begun not_over

  module _ (s : DialSpan) (found : FoundAround x.on days day s) (ws : List ℕ) (j : Judgement) (judged : JudgedSo x s.from s.to s.energy ws j) where
    first_of : (account : Result ℕ Anomaly) → j.account ≡ account → FirstAnomaly x s.from s.to (found.v - found.u) (anomaly_in account)
    first_of account is = subst (λ (k : ℕ). FirstAnomaly x s.from s.to k (anomaly_in account)) found.energy (subst (λ (o : Result ℕ Anomaly). FirstAnomaly x s.from s.to s.energy (anomaly_in o)) is judged.first)

    pub factor_some : (p : ℕ) → j.account ≡ Ok p → FactorOf x day (usage_factor s.energy j.all)
    factor_some p is =
        let w : WeighedFor x s.from s.to None ws j.all = subst (λ (o : Result ℕ Anomaly). WeighedFor x s.from s.to (anomaly_in o) ws j.all) is judged.weighed in
        let size : 48 * s.to - 48 * s.from ≡ 48 * (s.to - s.from) = omega arith in
        let sum : j.all ≡ own_sum x s.from s.to = w.sum ∙ (ap (before (from (own x) (48 * s.from))) size ∙ sym (own_sum_is x s.from s.to)) in
        record {
          a = s.from;
          b = s.to;
          u = found.u;
          v = found.v;
          judged = record { span = found.span; first = first_of (Ok p) is };
          begun = found.begun;
          not_over = found.not_over;
          pair = ap (λ (k : ℕ). usage_factor k j.all) found.energy ∙ ap (usage_factor (found.v - found.u)) sum;
        }

    pub factor_kept : (n : Anomaly) → j.account ≡ Err n → FactorTold x day None
    factor_kept n is a b u v around begun not_over =
        let same = one x.on (48 * day) a b u v s.from s.to found.u found.v around.span (record { begun = omega arith; not_over = omega arith }) found.span (record { begun = omega (arith, found.begun); not_over = omega (arith, found.not_over) }) in
        let energy : v - u ≡ found.v - found.u = omega (arith, same.2, same.3) in
        let none : FirstAnomaly x s.from s.to (found.v - found.u) None =
        subst (λ (k : ℕ). FirstAnomaly x s.from s.to k None) energy (subst (λ (k : ℕ). FirstAnomaly x s.from k (v - u) None) same.1 (subst (λ (k : ℕ). FirstAnomaly x k b (v - u) None) same.0 around.first)) in
        differ _ (one_judgement.once x s.from s.to (found.v - found.u) None (Some (number_of n)) none (first_of (Err n) is)) refl
