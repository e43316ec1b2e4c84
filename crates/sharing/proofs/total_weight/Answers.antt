use Rattle.std.proofs.Common.{◌≡◌, sum, rules, tests}
use Rattle.std.proofs.lemmas.Iterator.{YieldsList-from_slice}
use Rattle.std.proofs.lemmas.Iterator.Search.{all_from_yields_List}
use Rattle.sharing.specs.Shares.{light}
use Rattle.sharing.proofs.Sums.{sum_is_total}
use Rattle.sharing.proofs.total_weight.Goals as goal

pub returns : goal.returns
returns c =
    let ws = c.args.weights.now in
    let all = all_from_yields_List light _ _ c.all.result c.all.ensures.ran (YieldsList-from_slice ws cc) (λ x b q k. search (rules, tests)) in
    let adds : c.sum.result ≡ sum ws = search rules in
    let told = sum_is_total ws in
    search rules
