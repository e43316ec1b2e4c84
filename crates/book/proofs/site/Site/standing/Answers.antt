use Rattle.std.proofs.Common.{refl, ◌∙◌, rules, tests}
use Rattle.std.proofs.lemmas.Iterator.{YieldsList-from_range}
use Rattle.std.proofs.lemmas.Iterator.Consumers.{fold_from_yields_List}
use Rattle.book_rules.specs.Tests.{standing_on, standing_by}
use Rattle.book.specs.Sites.{starting}
use Rattle.book.proofs.Counted.{fold_days}
use Rattle.book.proofs.site.Site.standing.Goals as goal

pub returns : goal.returns
unfolding standing_by
returns c =
    let f = starting c.args.self.now in
    fold_from_yields_List _ (λ t b. standing_on t b (f b)) _ _ c.fold.ensures.ran (YieldsList-from_range 0 36 36 (cc) refl) (λ t b r q k. search (rules, tests))
    ∙ fold_days (standing_by f) (λ t b. standing_on t b (f b)) (λ n. refl) 36
