use Rattle.book_rules.proofs.Orders.{always_orderly}
use Rattle.book_rules.proofs.contents_are_orderly.Goals as goal

pub returns : goal.returns
returns c = always_orderly
