use Rattle.std.proofs.Common.{arith}
use Rattle.sharing.proofs.Fairness.{running_laws}
use Rattle.sharing.proofs.Sharing.next_figure.Goals as goal

pub overflow_sub-figure : goal.overflow_sub-figure
overflow_sub-figure c =
    let s = c.args.self.now in
    omega (arith, running_laws.never_falls s.energy s.all s.behind c.min-behind.result s.some (omega arith))
