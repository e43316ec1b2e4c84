use Rattle.std.proofs.Common.{◌∙◌, arith, rules, tests}
use Rattle.std.proofs.lemmas.Iterator.{YieldsList-from_range, YieldsList-from_map}
use Rattle.std.proofs.lemmas.Iterator.Consumers.{sum_from_yields_List}
use Rattle.std.proofs.lemmas.Iterator.Adapters.{fits_from_length, at_most_from_yields_List}
use Rattle.std.proofs.lemmas.List.FromFn.{length-range_with_len}
use Rattle.readings.proofs.Sums.{sum_of_places, light_before}
use Rattle.readings.proofs.spans.curves.Weights.total.Goals as goal

pub sum-requires-clause-fits : goal.sum-requires-clause-fits
sum-requires-clause-fits g c =
    let n = c.args.self.now.half_hours in
    fits_from_length _ _ 1680 _ (at_most_from_yields_List (YieldsList-from_range 0 n n (cc) (omega arith)) (omega (arith, length-range_with_len 0 n)))
    c.map.ensures.closure (omega arith) (λ x r q k. search (rules, tests))

pub returns-clause-value : goal.returns-clause-value
returns-clause-value g c =
    let n = c.args.self.now.half_hours in
    let w = g.S.ProfileSource.weighs c.args.self.now.source.now c.args.self.now.sub_profile in
    sum_from_yields_List c.map.result c.sum.result c.sum.ensures.ran
    (YieldsList-from_map _ w (YieldsList-from_range 0 n n (cc) (omega arith)) c.map.ensures.closure (λ x r q k. search (rules, tests)))
    ∙ sum_of_places w n

pub returns-clause-bound : goal.returns-clause-bound
returns-clause-bound g c =
    let s = c.args.self.now in
    let n = s.half_hours in
    let w = g.S.ProfileSource.weighs s.source.now s.sub_profile in
    omega (arith, returns-clause-value g c, light_before w n (λ t h. c.requires.light s.sub_profile t s.known (omega (arith, c.requires.covered))))
