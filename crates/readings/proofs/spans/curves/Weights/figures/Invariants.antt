use Rattle.std.proofs.Common.{◌≡◌, map, vec_items}
use Rattle.std.specs.List.{range_with_len}
use Rattle.sharing.specs.Shares.{before, figure}
use Rattle.readings.proofs.spans.curves.Weights.figures.Given as goal

abbrev pub invariant-loop-t : goal.invariant-loop-t
invariant-loop-t g l =
    let w = g.S.ProfileSource.weighs l.self.source.now l.self.sub_profile in
    record {
      energy : l.sharing.energy ≡ l.fn.sharing.energy;
      all : l.sharing.all ≡ l.fn.sharing.all;
      behind : l.sharing.behind ≡ before w l.t;
      drawn : vec_items l.curve ≡ map (figure l.fn.sharing.energy w l.self.half_hours) (range_with_len 0 l.t);
    }
