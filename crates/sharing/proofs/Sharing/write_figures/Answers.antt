use Rattle.std.proofs.Common.{◌≡◌, ◌+◌, ◌<◌, length, arith, get_or-set_same, below_more}
use Rattle.std.proofs.lemmas.List.{drop_more, length-drop}
use Rattle.std.proofs.lemmas.Grind.{common_steps}
use Rattle.sharing.specs.Shares.{weighed, passed, gained}
use Rattle.sharing.proofs.Sums.{before_none, before_more}
use Rattle.sharing.proofs.Sharing.write_figures.Goals as goal

pub loop-figure-init : goal.loop-figure-init
loop-figure-init c = grind (arith, before_none (weighed c.args.weights.now))

pub loop-figure-preserved : goal.loop-figure-preserved
loop-figure-preserved c =
    let old = c.args.self in let ws = c.args.weights.now in let t = c.loop-figure.figure-index in
    let some : t < length ws = grind (arith, length-drop t ws) in
    let split = drop_more ws t 0 some in
    let next : c.next_figure.new.self.behind ≡ passed old.all old.behind ws (t + 1) = grind (arith, split, before_more (weighed ws) t) in
    let here : c.next_figure.result ≡ gained old.energy old.all old.behind ws t = cc in
    let room : t < length c.loop-figure.figures = omega arith in
    record {
      energy = cc;
      all = cc;
      behind = next;
      rest = grind (arith, split);
      weighed = omega arith;
      written = below_more _ t (λ k h. grind (arith, common_steps, c.loop-figure.invariant.written k h)) (rw get_or-set_same here);
      further = λ k h. grind (arith, common_steps, c.loop-figure.invariant.further k);
    }
