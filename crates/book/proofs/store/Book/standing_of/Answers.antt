use Rattle.std.proofs.Common.{◌≡◌, ◌<◌, vec_len, arith}
use Rattle.std.proofs.lemmas.Grind.{common_steps}
use Rattle.book_rules.specs.Tests.{standing}
use Rattle.book.specs.Books.{contents}
use Rattle.book.proofs.Ruled.{stands}
use Rattle.book.proofs.store.Book.standing_of.Goals as goal

pub returns : goal.returns
returns c =
    let b = c.args.self.now in
    let known : c.args.site < vec_len b.sites = grind (arith, common_steps) in
    let at : c.standing.result ≡ standing 36 (contents b) c.args.site = grind (arith, common_steps) in
    (known, stands b c.args.site c.standing.result at)
