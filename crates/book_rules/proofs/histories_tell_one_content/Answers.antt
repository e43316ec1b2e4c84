use Rattle.book_rules.proofs.Once.{once}
use Rattle.book_rules.proofs.Some.{some}
use Rattle.book_rules.proofs.histories_tell_one_content.Goals as goal

pub returns : goal.returns
returns c = record { some = some; once = once }
