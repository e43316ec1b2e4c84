use Rattle.span_rules.proofs.Serving.{covering}
use Rattle.span_rules.proofs.situations_cover_their_days.Goals as goal

pub returns : goal.returns
returns c = covering
