use Rattle.sharing.proofs.Fairness.{running_laws}
use Rattle.sharing.proofs.running_share_keeps_its_laws.Goals as goal

pub returns : goal.returns
returns c = running_laws
