use Rattle.std.proofs.Common.{◌≡◌, ◌∙◌, sum, rules, arith}
use Rattle.sharing.specs.Shares.{total}
use Rattle.readings.proofs.Sums.{sum_total}
use Rattle.readings.proofs.total.Goals as goal

pub returns : goal.returns
returns c =
    let added : c.sum.result ≡ sum c.args.curve.now = search rules in
    let total : c.sum.result ≡ total c.args.curve.now = added ∙ sum_total c.args.curve.now in
    omega (arith, total)
