use Rattle.std.proofs.Common.{◌*◌, Some, None, arith}
use Rattle.std.proofs.lemmas.Result.{err_from_is_err_and}
use Rattle.span_rules.specs.Days.{Metering}
use Rattle.spans.proofs.Judged.{without_grounds, sub_profile_bound}
use Rattle.spans.specs.Judging.{Grounded, anomaly_by}
use Rattle.judgements.specs.Judgements.{meaning}
use Rattle.judgements.proofs.Weighings.{weighed_part, length_mid}
use Rattle.judgements.proofs.Parties.{found_of, none_of, first_by, of_party, own_weights}
use Rattle.judgements.proofs.MeteredDial.party_of.Goals as goal

pub returns-in_err-grounds-clause-own : goal.returns-in_err-grounds-clause-own
returns-in_err-grounds-clause-own g c = λ lt covered.
    let p = err_from_is_err_and c.from_residual.result c.from_residual.ensures.1 in rw (p.1, p.2) (without_grounds _ _ _ _ lt c.in_err-grounds.field-0.0 (c.in_err-grounds.ensures lt))

pub returns-in_err-check-clause-own : goal.returns-in_err-check-clause-own
returns-in_err-check-clause-own g c = λ lt covered.
    let x : Metering = meaning g.S.ProfileSource.weighs c.args.self.now in
    let a = c.args.span.from in let b = c.args.span.to in let gr = c.in_ok-grounds.grounds in
    let on : Grounded x.starting x.dial a b gr = c.in_ok-grounds.ensures lt in
    let r = c.half_hours-places.ensures in let first = c.half_hours-places.result.start in let end = c.half_hours-places.result.end in
    let mid = length_mid first end c.args.weights.now (omega arith) (omega arith) in
    let w = c.weigh-sum.ensures.weighed (sub_profile_bound on.situation.terms x.dial gr.sub_profile on.sub_profile) (omega (arith, mid)) in
    let written = weighed_part _ (48 * a) (48 * b) first end c.weigh-sum.result c.args.weights.now c.weigh-sum.new.weights r.0 r.1 (omega arith) (omega arith) c.weigh-sum.ensures.length w in
    let p = err_from_is_err_and c.from_residual-in_err-check.result c.from_residual-in_err-check.ensures.1 in
    rw (p.1, p.2) (first_by x a b c.args.span.energy lt gr on _ c.weigh-sum.result written (Some c.in_err-check.field-0.0) (found_of (anomaly_by x.k x.theta gr c.args.span.energy c.weigh-sum.result) _ c.in_err-check.ensures))

pub returns-clause-own : goal.returns-clause-own
returns-clause-own g c = λ lt covered.
    let x : Metering = meaning g.S.ProfileSource.weighs c.args.self.now in
    let a = c.args.span.from in let b = c.args.span.to in let gr = c.in_ok-grounds.grounds in
    let on : Grounded x.starting x.dial a b gr = c.in_ok-grounds.ensures lt in
    let r = c.half_hours-places.ensures in let first = c.half_hours-places.result.start in let end = c.half_hours-places.result.end in
    let mid = length_mid first end c.args.weights.now (omega arith) (omega arith) in
    let w = c.weigh-sum.ensures.weighed (sub_profile_bound on.situation.terms x.dial gr.sub_profile on.sub_profile) (omega (arith, mid)) in
    let written = weighed_part _ (48 * a) (48 * b) first end c.weigh-sum.result c.args.weights.now c.weigh-sum.new.weights r.0 r.1 (omega arith) (omega arith) c.weigh-sum.ensures.length w in (
      first_by x a b c.args.span.energy lt gr on _ c.weigh-sum.result written None (none_of (anomaly_by x.k x.theta gr c.args.span.energy c.weigh-sum.result) c.in_ok-check.ensures),
      of_party x a b c.args.span.energy lt gr on _ c.weigh-sum.result written,
      own_weights x a b c.args.span.energy lt gr on _ c.weigh-sum.result written,
    )
