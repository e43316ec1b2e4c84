use Rattle.book_rules.proofs.Rulings.{rules}
use Rattle.book_rules.proofs.tests_find_the_refusal.Goals as goal

pub returns : goal.returns
returns c = rules
