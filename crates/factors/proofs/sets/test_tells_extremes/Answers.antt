use Rattle.factors.proofs.Signs.{test_tells}
use Rattle.factors.proofs.sets.test_tells_extremes.Goals as goal

pub returns : goal.returns
returns c = test_tells
