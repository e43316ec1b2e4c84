use Rattle.std.proofs.Common.{◌∙◌, ℕ, cond, leb, refl, arith, rules, tests}
use Rattle.std.proofs.lemmas.Iterator.{YieldsList-from_range, YieldsList-from_map}
use Rattle.std.proofs.lemmas.Iterator.Consumers.{sum_from_yields_List}
use Rattle.std.proofs.lemmas.Iterator.Adapters.{fits_from_length, at_most_from_yields_List}
use Rattle.std.proofs.lemmas.List.FromFn.{length-range_with_len}
use Rattle.calendar.specs.Dates.{days_before_month}
use Rattle.calendar.proofs.Counting.{begun_added, begun_bound}
use Rattle.calendar.proofs.months_begun.Goals as goal

pub sum-requires-clause-fits : goal.sum-requires-clause-fits
sum-requires-clause-fits c =
    fits_from_length _ _ 12 _ (at_most_from_yields_List (YieldsList-from_range 1 13 12 (cc) refl) (omega (arith, length-range_with_len 1 12)))
    c.map.ensures.closure (omega arith) (λ x r q k. search (rules, tests))

pub returns-clause-value : goal.returns-clause-value
returns-clause-value c =
    let once = λ (m : ℕ). cond (leb (days_before_month c.args.year m) c.args.day_of_year) 1 0 in
    sum_from_yields_List c.map.result c.sum.result c.sum.ensures.ran
    (YieldsList-from_map _ once (YieldsList-from_range 1 13 12 (cc) refl) c.map.ensures.closure (λ x r q k. search (rules, tests)))
    ∙ begun_added (days_before_month c.args.year) c.args.day_of_year

pub returns-clause-bound : goal.returns-clause-bound
returns-clause-bound c = omega (arith, returns-clause-value c, begun_bound (days_before_month c.args.year) c.args.day_of_year 12)
