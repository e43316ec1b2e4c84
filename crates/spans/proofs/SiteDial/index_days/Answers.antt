use Rattle.std.proofs.Common.{◌+◌, ap, ◌∙◌, sym, subst, rules, tests, arith}
use Rattle.std.proofs.lemmas.Iterator.{YieldsList-from_range}
use Rattle.std.proofs.lemmas.Iterator.Consumers.{fold_from_yields_List}
use Rattle.book.specs.Books.{contents}
use Rattle.spans.specs.Finding.{track, seen_with, two_of, WithinDays, DaysTold}
use Rattle.spans.proofs.Seen.{walked, days_told}
use Rattle.spans.proofs.SiteDial.index_days.Goals as goal

pub returns : goal.returns
returns c = λ within.
    let on = track (contents c.args.self.now.book.now) c.args.self.now.site c.args.self.now.dial in
    let n = c.days.result + 1 in
    let seen = fold_from_yields_List _ (λ s d. seen_with d (on d) s) _ _ c.fold-seen.ensures.ran (YieldsList-from_range 0 n n (cc) (omega arith)) (λ t b r q k. search (rules, tests)) ∙ walked on n in
    subst (DaysTold on) (sym (c.apart.ensures ∙ ap two_of seen)) (days_told on c.days.result (subst (WithinDays on) (sym c.days.ensures.value) within))
