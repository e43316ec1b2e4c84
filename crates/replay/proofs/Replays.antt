-- Calls with their answers tell what the calls tell. Assumes nothing.
use Rattle.std.proofs.Common.{◌≡◌, List, [], ◌∷◌, ◌++◌, Result, subst}
use Rattle.refusals.specs.declared.Refusal.{Refusal}
use Rattle.book_rules.specs.declared.Call.{Call}
use Rattle.book_rules.specs.Contents.{Setup, Contents}
use Rattle.book_rules.specs.Telling as telling
use Rattle.book_rules.specs.Telling.{Told, Step}
use Rattle.book.specs.declared.store.Book.{Book}
use Rattle.book.specs.Books.{setup, contents, answered, Made}
use Rattle.replay.specs.Replaying.{Answered, at_first, after}

pub told_of : (u : Setup) (h : List Call) (rs : List (Result (Unit {0}) Refusal)) (m : Contents) → Answered u h rs m → Told u h m
told_of u h rs m (at_first _ t) = t
told_of u h rs m (after g qs c r n _ a s) = telling.after g c (answered r) n m (told_of u g qs n a) s

-- one call more
pub one_call : (u : Setup) (h k : List Call) (rs qs : List (Result (Unit {0}) Refusal)) (c : Call) (r : Result (Unit {0}) Refusal) (b a : Book)
    → setup b ≡ u → Made b c r a → k ≡ h ++ c ∷ [] → qs ≡ rs ++ r ∷ [] → Answered u h rs (contents b) → Answered u k qs (contents a)
one_call u h k rs qs c r b a e made p q t =
    let s = subst (λ (z : Setup). Step z (contents b) c (answered r) (contents a)) e made.step in
    rw (p, q) (after h rs c r (contents b) (contents a) t s)
