use Rattle.span_rules.proofs.Curves.{spans_fair}
use Rattle.span_rules.proofs.spans_are_shared_fairly.Goals as goal

pub returns : goal.returns
returns c = spans_fair
