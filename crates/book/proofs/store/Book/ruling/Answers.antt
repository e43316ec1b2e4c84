use Rattle.std.proofs.Common.{◌≡◌, arith}
use Rattle.std.proofs.lemmas.Grind.{common_steps}
use Rattle.book_rules.specs.Tests.{first, tests}
use Rattle.book.specs.Books.{setup, contents, ruled}
use Rattle.book.proofs.Ruled.{by_tests}
use Rattle.book.proofs.store.Book.ruling.Goals as goal

pub returns : goal.returns
returns c =
    let b = c.args.self.now in
    let found : ruled c.err.result ≡ first (tests 36 (setup b) (contents b) c.args.call) = grind (arith, common_steps) in
    by_tests b c.args.call _ found
