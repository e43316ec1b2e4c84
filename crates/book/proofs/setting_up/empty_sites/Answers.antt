use Rattle.std.proofs.Common.{◌≡◌, ℕ, ◌+◌, vec_items, sym, ap, ◌∙◌, subst, arith}
use Rattle.book.specs.Books.{AllEmpty}
use Rattle.book.proofs.Storage.{all_empty, one_more_empty}
use Rattle.book.proofs.setting_up.empty_sites.Goals as goal

pub loop-init : goal.loop-init
loop-init c =
    let v = c.in_ok-sites.ensures in
    (v.len, subst AllEmpty (sym v.items) all_empty)

pub loop-preserved : goal.loop-preserved
loop-preserved c =
    let p = c.in_ok-push.ensures in
    (p.len ∙ ap (λ (n : ℕ). n + 1) c.loop.invariant.0, subst AllEmpty (sym p.items) (one_more_empty (vec_items c.loop.sites) c.new.result c.loop.invariant.1 c.new.ensures))

pub returns : goal.returns
returns c =
    let end : c.loop.counter ≡ c.args.count = omega (arith, c.loop-test.false, c.loop.auto.counter-end) in
    (c.loop.invariant.0 ∙ end, c.loop.invariant.1)
