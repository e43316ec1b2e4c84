use Rattle.std.proofs.Common.{◌≡◌, length, arith, rules, tests}
use Rattle.std.proofs.lemmas.Bool.{leb-true}
use Rattle.std.proofs.lemmas.List.Sums.{AllPass-from_list_all}
use Rattle.std.proofs.lemmas.Grind.{common_steps}
use Rattle.std.proofs.lemmas.Iterator.{YieldsList-from_slice}
use Rattle.std.proofs.lemmas.Iterator.Search.{all_from_yields_List}
use Rattle.factors.specs.Sets.{bounded}
use Rattle.factors.proofs.Thresholds.of.Goals as goal
use Rattle.factors.proofs.Thresholds.of.Goals.{then-k-gt50000-via-then-k-gt50000, then-k-gt50000-via-else-k-gt50000+then-not-all}

pub returns-then-k-gt50000 : goal.returns-then-k-gt50000
returns-then-k-gt50000 c =
    elim c.then-k-gt50000.branch [
      | then-k-gt50000-via-then-k-gt50000 w ↦ search rules
      | then-k-gt50000-via-else-k-gt50000+then-not-all w ↦
          let xs = c.in_ok-thetas.field-0.now in
          let all = all_from_yields_List bounded _ _ w.all.result w.all.ensures.ran (YieldsList-from_slice xs cc) (λ x b q k. search (rules, tests)) in
          search rules
    ]

pub invariant_of-result : goal.invariant_of-result
invariant_of-result c =
    let xs = c.in_ok-thetas.field-0.now in
    let all = all_from_yields_List bounded _ _ c.all.result c.all.ensures.ran (YieldsList-from_slice xs cc) (λ x b q k. search (rules, tests)) in
    let eight : length xs ≡ 8 = grind (arith, common_steps) in
    record {
      k_bounded = omega arith;
      thetas_bounded = λ sub h. leb-true _ _ (AllPass-from_list_all bounded xs (cc) sub 0 (omega arith));
    }

pub returns : goal.returns
returns c =
    let xs = c.in_ok-thetas.field-0.now in
    let all = all_from_yields_List bounded _ _ c.all.result c.all.ensures.ran (YieldsList-from_slice xs cc) (λ x b q k. search (rules, tests)) in
    search rules
