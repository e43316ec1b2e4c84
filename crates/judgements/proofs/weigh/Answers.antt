use Rattle.std.proofs.Common.{◌≡◌, ℕ, ◌<◌, length, subst, arith}
use Rattle.judgements.specs.Judgements.{WeighedInto}
use Rattle.judgements.proofs.Weighings.{weighed_none, weighed_more}
use Rattle.judgements.proofs.weigh.Goals as goal

pub loop-i-init : goal.loop-i-init
loop-i-init g c = record { weighed = λ h k. weighed_none _ _ _; light = omega arith }

pub loop-i-preserved : goal.loop-i-preserved
loop-i-preserved g c =
    let room : c.loop-i.i < length c.loop-i.weights = omega arith in
    record {
      weighed = λ h k. weighed_more _ c.args.first c.loop-i.i c.weight_at.result c.from-sum.result c.loop-i.sum c.loop-i.weights room (c.weight_at.ensures.value h (omega arith)) c.from-sum.ensures (c.loop-i.invariant.weighed h k);
      light = omega (arith, c.loop-i.invariant.light, c.weight_at.ensures.bound);
    }

pub returns-clause-weighed : goal.returns-clause-weighed
returns-clause-weighed g c = λ h k.
    let end : c.loop-i.i ≡ length c.args.weights.now = omega arith in
    subst (λ (n : ℕ). WeighedInto (g.S.ProfileSource.weighs c.args.source.now c.args.sub_profile) c.args.first n c.loop-i.weights c.loop-i.sum) end (c.loop-i.invariant.weighed h k)
