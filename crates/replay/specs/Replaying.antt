-- What a book holds after a list of calls, and what they were answered.
use Rattle.std.specs.Prelude.{◌≡◌, true, false, List, [], ◌∷◌, ◌++◌, Ok, Err, vec_items, Result}
use Rattle.refusals.specs.declared.Refusal.{Refusal}
use Rattle.refusals.specs.Numbers.{number_of}
use Rattle.book_rules.specs.declared.Call.{Call}
use Rattle.book_rules.specs.Contents.{Setup, Contents}
use Rattle.book_rules.specs.Telling.{Step, Told}
use Rattle.book_rules.specs.declared.SetUp.{SetUp}
use Rattle.book_rules.specs.declared.SetUpError.{SetUpError}
use Rattle.book_rules.specs.declared.SetUpError.TheVariants.{Refused, OutOfMemory}
use Rattle.replay.specs.declared.ReplayedBook.{ReplayedBook}
use Rattle.book.specs.Books.{setup, contents, answered, within_bounds, as_set}

-- These calls, answered so, lead from nothing to this.
pub data Answered (u : Setup) : List Call → List (Result (Unit {0}) Refusal) → Contents → Type 0 where
  at_first : (m : Contents) → Told u [] m → Answered u [] [] m
  after : (h : List Call) (rs : List (Result (Unit {0}) Refusal)) (c : Call) (r : Result (Unit {0}) Refusal) (m n : Contents) → Answered u h rs m → Step u m c (answered r) n → Answered u (h ++ c ∷ []) (rs ++ r ∷ []) n

-- A book of these bounds, what the calls tell of it and their answers; or refusal 1, outside the bounds and only there;
-- or no memory.
abbrev pub Replayed : SetUp → List Call → Result ReplayedBook SetUpError → Type 0
Replayed x calls (Ok v) =
    (within_bounds x ≡ true) × ((setup v.book ≡ as_set x) × (Told (as_set x) calls (contents v.book) × Answered (as_set x) calls (vec_items v.answers) (contents v.book)))
Replayed x calls (Err (Refused r)) = (within_bounds x ≡ false) × (number_of r ≡ 1)
Replayed x calls (Err OutOfMemory) = within_bounds x ≡ true
