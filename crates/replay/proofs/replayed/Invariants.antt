use Rattle.std.proofs.Common.{◌≡◌, [], take, vec_items}
use Rattle.book_rules.specs.Telling.{Told}
use Rattle.book.specs.Books.{setup, contents}
use Rattle.replay.specs.Replaying.{Answered}
use Rattle.replay.proofs.replayed.Given as goal

abbrev pub invariant-loop-call : goal.invariant-loop-call
invariant-loop-call l =
    let u = setup l.initial.book in
    (setup l.book ≡ u) × (Told u [] (contents l.initial.book) → Answered u (take l.call-index l.calls) (vec_items l.answers) (contents l.book))
