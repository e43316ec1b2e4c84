use Rattle.std.proofs.Common.{◌≡◌, ℕ, ◌-◌, List, length, get_or, replicate, ap, ◌∙◌, arith}
use Rattle.std.proofs.lemmas.List.{get_or-replicate}
use borrow.Rule.Slice.PartMut.{mid_of}
use Rattle.span_rules.specs.Days.{Metering}
use Rattle.judgements.specs.Judgements.{meaning}
use Rattle.judgements.proofs.Weighings.{length_mid, at_mid}
use Rattle.judgements.proofs.Parties.{anomaly_judged, judged_at}
use Rattle.judgements.proofs.MeteredDial.judge.Goals as goal

pub returns-in-Err : goal.returns-in-Err
returns-in-Err g c = λ lt few covered.
    let x : Metering = meaning g.S.ProfileSource.weighs c.args.self.now in
    let to_is : c.min-to.result ≡ c.args.span.to = omega (arith, c.min-to.ensures) in
    let from_is : c.min.result ≡ c.args.span.from = omega (arith, c.min.ensures, to_is) in
    let r = c.half_hours.ensures in let first = c.half_hours.result.start in let end = c.half_hours.result.end in let ws = c.party_of.new.weights in
    let long : length (mid_of first (end - first) ws) ≡ end - first = length_mid first end ws (omega arith) (omega arith) in
    let ones : c.fill.new.self ≡ replicate (length (mid_of first (end - first) ws)) 1 = c.fill.ensures.after (λ y h. h) in
    judged_at x _ _ _ _ c.args.span.energy _ _ from_is to_is
    (anomaly_judged x c.min.result c.min-to.result c.args.span.energy ws _ c.in-Err.anomaly _ (c.in-Err.ensures.own (omega arith) (omega arith))
    (λ t lo hi. at_mid first end ws (omega arith) (omega arith) c.fill.new.self c.fill.ensures.len t (omega arith) (omega arith) ∙ (ap (λ (l : List ℕ). get_or l (t - first) 0) ones ∙ get_or-replicate (length (mid_of first (end - first) ws)) (t - first) 1 0 (omega (arith, long))))
    (omega (arith, long, c.fill.ensures.len)) (omega arith))
