use Rattle.std.proofs.Common.{◌≡◌, ℕ, ◌+◌, List, length, get_or, sym, refl, ap, ◌∙◌, arith, zero-add}
use Rattle.std.proofs.lemmas.List.FromFn.{map-range_with_len_more, length-map-range_with_len, get_or-map-range_with_len}
use Rattle.sharing.specs.Shares.{before, figure}
use Rattle.sharing.proofs.Sums.{before_none, before_more, before_le}
use Rattle.sharing.proofs.Fairness.{running_laws, fair, figure_is}
use Rattle.readings.proofs.spans.curves.Weights.figures.Goals as goal

pub loop-t-init : goal.loop-t-init
loop-t-init g c =
    let w = g.S.ProfileSource.weighs c.args.self.now.source.now c.args.self.now.sub_profile in
    record { energy = refl; all = refl; behind = c.requires.behind ∙ sym (before_none w); drawn = c.new-curve.ensures.items }

pub loop-t-preserved : goal.loop-t-preserved
loop-t-preserved g c =
    let w = g.S.ProfileSource.weighs c.args.self.now.source.now c.args.self.now.sub_profile in
    let n = c.args.self.now.half_hours in
    let e = c.args.sharing.energy in let t = c.loop-t.t in
    let here = c.loop-t.invariant in
    let f = c.next_figure.ensures in
    let moved : c.next_figure.new.self.behind ≡ before w (t + 1) = omega (arith, f.behind, before_more w t, before_le w (t + 1) n (omega arith), c.requires.all) in
    let gains : c.next_figure.result ≡ figure e w n t = cc (f.figure, figure_is e w n t) in
    record {
      energy = f.same.0 ∙ here.energy;
      all = f.same.1 ∙ here.all;
      behind = moved;
      drawn = cc (c.in_ok-push.ensures.items, map-range_with_len_more (figure e w n) 0 t t (zero-add t));
    }

pub returns : goal.returns
returns g c =
    let w = g.S.ProfileSource.weighs c.args.self.now.source.now c.args.self.now.sub_profile in
    let n = c.args.self.now.half_hours in
    let e = c.args.sharing.energy in let t = c.loop-t.t in
    let drawn = c.loop-t.invariant.drawn in
    record {
      long = ap length drawn ∙ (length-map-range_with_len (figure e w n) 0 t ∙ omega arith);
      figures = λ k h. ap (λ (xs : List ℕ). get_or xs k 0) drawn ∙ get_or-map-range_with_len (figure e w n) 0 t k k 0 (omega arith) (zero-add k);
      fair = fair running_laws e w n (omega (arith, c.args.sharing.some, c.requires.all));
    }
