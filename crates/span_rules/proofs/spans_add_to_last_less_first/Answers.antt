use Rattle.span_rules.proofs.Curves.{adds_up}
use Rattle.span_rules.proofs.spans_add_to_last_less_first.Goals as goal

pub returns : goal.returns
returns c = adds_up
