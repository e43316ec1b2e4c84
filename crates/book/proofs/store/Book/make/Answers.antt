use Rattle.std.proofs.Common.{◌≡◌, Err, None, arith}
use Rattle.std.proofs.lemmas.Grind.{common_steps}
use Rattle.std.proofs.lemmas.Result.{err_from_is_err_and}
use Rattle.book_rules.specs.Refusing.{Rules}
use Rattle.book_rules.specs.Tests.{first, tests}
use Rattle.book.specs.Books.{setup, contents, answered}
use Rattle.book.proofs.Ruled.{by_tests, made}
use Rattle.book.proofs.store.Book.make.Goals as goal

pub returns-in_err-allow : goal.returns-in_err-allow
returns-in_err-allow c =
    let b = c.args.self.now in
    let p = err_from_is_err_and c.from_residual.result c.from_residual.ensures.1 in
    let found : answered {X = Unit {0}} (Err c.in_err-allow.field-0.0) ≡ first (tests 36 (setup b) (contents b) c.args.call) = grind (arith, common_steps) in
    rw (p.1, p.2) (made b _ c.args.call (Err c.in_err-allow.field-0.0) (grind (arith, common_steps)) (by_tests b c.args.call _ found, grind (arith, common_steps)))

pub act-requires : goal.act-requires
act-requires c =
    let b = c.args.self.now in
    let found : None ≡ first (tests 36 (setup b) (contents b) c.args.call) = grind (arith, common_steps) in
    let allowed : Rules (setup b) (contents b) c.args.call None = by_tests b c.args.call None found in
    grind (arith, common_steps)

pub returns : goal.returns
returns c =
    let b = c.args.self.now in
    let found : None ≡ first (tests 36 (setup b) (contents b) c.args.call) = grind (arith, common_steps) in
    made b c.act.new.self c.args.call _ (grind (arith, common_steps)) (by_tests b c.args.call None found, grind (arith, common_steps))
