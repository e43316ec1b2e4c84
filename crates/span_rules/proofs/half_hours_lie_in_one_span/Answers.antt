use Rattle.span_rules.proofs.Tracks.{half_hours_in_spans}
use Rattle.span_rules.proofs.half_hours_lie_in_one_span.Goals as goal

pub returns : goal.returns
returns c = half_hours_in_spans
