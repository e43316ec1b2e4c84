use Rattle.std.proofs.Common.{[], take, vec_items, refl, ◌∙◌, take_all}
use Rattle.std.proofs.lemmas.List.{take_more}
use Rattle.book_rules.specs.Telling.{Told}
use Rattle.book.specs.Books.{setup, contents, as_set}
use Rattle.replay.specs.Replaying.{Answered, at_first}
use Rattle.replay.proofs.Replays.{told_of, one_call}
use Rattle.replay.proofs.replayed.Goals as goal

pub loop-call-init : goal.loop-call-init
loop-call-init c =
    let b = c.in_ok-book.book in
    (refl, λ t. rw c.in_ok-answers.ensures.items (at_first (contents b) t))

pub loop-call-preserved : goal.loop-call-preserved
loop-call-preserved c =
    let i = c.loop-call.call-index in let calls = c.args.calls.now in (
      c.make.ensures.same ∙ c.loop-call.invariant.0,
      λ t.
          one_call (setup c.in_ok-book.book) (take i calls) _ (vec_items c.loop-call.answers) _ _ c.make.result c.loop-call.book c.make.new.self c.loop-call.invariant.0 c.make.ensures
          (take_more calls i _ c.loop-call-test.true) c.in_ok-push.ensures.items (c.loop-call.invariant.1 t),
    )

pub returns : goal.returns
returns c =
    let b = c.loop-call.book in let calls = c.args.calls.now in let x = c.args.set_up in let rs = vec_items c.loop-call.answers in
    let fresh = c.in_ok-book.ensures in
    let told : Told (setup c.in_ok-book.book) [] (contents c.in_ok-book.book) = rw fresh.1.0 fresh.1.1 in
    let a : Answered (as_set x) calls rs (contents b) = rw (take_all _ calls c.loop-call-test.false, fresh.1.0) at (c.loop-call.invariant.1 told) in
    (fresh.0, (c.loop-call.invariant.0 ∙ fresh.1.0, (told_of (as_set x) calls rs (contents b) a, a)))
