use Rattle.std.proofs.Common.{◌≡◌, ℕ, not, is_ok, Err, sym, ap, arith}
use Rattle.std.proofs.lemmas.Bool.Decides.{nat_tests}
use Rattle.std.proofs.lemmas.Result.{err_from_is_err_and}
use Rattle.refusals.specs.declared.Refusal.{Refusal}
use Rattle.refusals.specs.declared.Refusal.TheVariants.{NoSuchProfile}
use Rattle.profiles.specs.Table.{profile_of}
use Rattle.book_rules.proofs.Rulings.{unprofiled}
use Rattle.book.proofs.store.Book.allow_terms.Goals as goal

-- class and power are refused for that reason only
refused : (class kva : ℕ) (r : Refusal) → Err r ≡ profile_of class kva → r ≡ NoSuchProfile
refused class kva r e = let n = unprofiled class kva (sym (ap (λ p. not (is_ok p)) e)) in cc

pub returns-in_err-of-in-Open : goal.returns-in_err-of-in-Open
returns-in_err-of-in-Open c =
    let p = err_from_is_err_and c.from_residual.result c.from_residual.ensures.1 in
    let why = refused c.in-Open.terms.class c.in-Open.terms.power c.in_err-of-in-Open.field-0.0 c.in_err-of-in-Open.ensures in
    rw (p.1, p.2, why) (grind (arith, nat_tests))
