use Rattle.span_rules.proofs.Judging.{one_judgement}
use Rattle.span_rules.proofs.spans_have_one_judgement.Goals as goal

pub returns : goal.returns
returns c = one_judgement
