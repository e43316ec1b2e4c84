use Rattle.std.proofs.Common.{arith}
use Rattle.std.proofs.lemmas.Grind.{common_steps}
use Rattle.book.proofs.Storage.{unknown}
use Rattle.book.proofs.store.Book.site.Goals as goal

pub returns : goal.returns
returns c = grind (arith, common_steps, unknown)
