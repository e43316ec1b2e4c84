use Rattle.std.proofs.Common.{◌≡◌, ℕ, sym, ◌∙◌, subst}
use Rattle.book_rules.specs.Contents.{Contents}
use Rattle.book_rules.proofs.Once.{once}
use Rattle.sheet_rules.specs.Account.{Account}
use Rattle.sheet_rules.proofs.one_history_draws_one_sheet.Goals as goal

pub returns : goal.returns
returns g c = λ u h m n w th cell other told again first second r t row half.
    let same = subst (λ (z : Contents). Account g.K.Amount.nil g.K.Amount.piece g.K.Amount.joined g.K.Amount.energy u z w th other) (sym (once u h m n told again)) second in
    let figures : ℕ → ℕ → ℕ → ℕ = λ s k. (first.curves s k).0 in
    let ds = first.listed r t row half in
    first.joins figures (λ s k. (first.curves s k).1) r t row half ds.0 ds.1 ∙ sym (same.joins figures (λ s k. (first.curves s k).1) r t row half ds.0 ds.1)
