use Rattle.std.proofs.Common.{refl, ◌∙◌, rules, tests}
use Rattle.std.proofs.lemmas.Iterator.{YieldsList-from_range}
use Rattle.std.proofs.lemmas.Iterator.Search.{any_from_yields_List}
use Rattle.book_rules.specs.Tests.{against, crossed}
use Rattle.book.specs.Sites.{on}
use Rattle.book.proofs.Counted.{any_day}
use Rattle.book.proofs.indexes.ByDay+Index.is_out_of_order.Goals as goal

pub returns : goal.returns
unfolding crossed
returns c =
    let f = on c.args.self.now in let d = c.args.day in let v = c.args.value in
    any_from_yields_List (λ e. against d v e (f e)) _ _ _ c.any.ensures.ran (YieldsList-from_range 0 36 36 (cc) refl) (λ x b q k. search (rules, tests))
    ∙ any_day (crossed f d v) (λ e. against d v e (f e)) refl (λ n. refl) 36
