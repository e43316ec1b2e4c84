use Rattle.std.proofs.Common.{sym, ◌∙◌}
use Rattle.book_rules.specs.Telling.{at_first}
use Rattle.book.proofs.store.Book.new.Goals as goal

pub returns : goal.returns
returns c =
    let v = c.in_ok-sites.ensures in let x = c.args.set_up in
    let n = v.0 in let a = c.new.ensures.most ∙ c.min.ensures in let b = c.new-2.ensures.most ∙ c.min-2.ensures in (
      sym c.if-not-is_within_bounds.ensures,
      (
        (λ i. record { days = x.days; parties = x.parties; sites = n i; situation_places = a i; index_places = b i }),
        at_first _ (record { no_situation = λ s. (v.1 s).no_situation; no_index = λ s. (v.1 s).no_index; none_situated = c.new.ensures.taken; none_indexed = c.new-2.ensures.taken }),
      ),
    )
