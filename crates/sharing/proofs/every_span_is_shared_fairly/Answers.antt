use Rattle.sharing.proofs.Fairness.{running_laws, fair}
use Rattle.sharing.proofs.every_span_is_shared_fairly.Goals as goal

pub returns : goal.returns
returns c = fair running_laws
