use Rattle.std.proofs.Common.{◌≡◌, vec_items, vec_len}
use Rattle.book.specs.Books.{AllEmpty}
use Rattle.book.proofs.setting_up.empty_sites.Given as goal

abbrev pub invariant-loop : goal.invariant-loop
invariant-loop l = (vec_len l.sites ≡ l.counter) × AllEmpty (vec_items l.sites)
