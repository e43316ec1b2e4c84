-- What a book holds after any calls, told from the calls alone.
use Rattle.std.specs.Prelude.{◌≡◌, ℕ, ◌+◌, ◌-◌, cond, ◌&&◌, List, [], ◌∷◌, ◌++◌, Some, None, Option, ◌==◌}
use Rattle.book_rules.specs.declared.Terms.{Terms}
use Rattle.book_rules.specs.declared.Situation.{Situation}
use Rattle.book_rules.specs.declared.Index.{Index}
use Rattle.book_rules.specs.declared.Call.{Call}
use Rattle.book_rules.specs.declared.Call.TheVariants.{Open, Modify, End, Correct, Enter, Strike}
use Rattle.book_rules.specs.Contents.{Setup, Contents, Last}
use Rattle.book_rules.specs.Refusing.{Rules}

-- A situation that runs on, and one that has ended.
abbrev pub begun : Terms → Situation
begun t = record { end = None; terms = t }

abbrev pub ended_on : ℕ → Situation → Situation
ended_on d x = record { end = Some d; terms = x.terms }

-- All situations are as they were, apart from the site's that starts on day d: that is x.
abbrev pub Situated : Contents → Contents → ℕ → ℕ → Situation → Type 0
Situated m n s d x = (a b : ℕ) → n.situation a b ≡ cond (s == a && d == b) (Some x) (m.situation a b)

-- All indexes are as they were, apart from that of the site's dial on day d: that is x.
abbrev pub Indexed : Contents → Contents → ℕ → ℕ → ℕ → Option Index → Type 0
Indexed m n s k d x = (a b e : ℕ) → n.index a b e ≡ cond (s == a && (k == b && d == e)) x (m.index a b e)

abbrev pub SameSituations : Contents → Contents → Type 0
SameSituations m n = ((a b : ℕ) → n.situation a b ≡ m.situation a b) × (n.situations ≡ m.situations)

abbrev pub SameIndexes : Contents → Contents → Type 0
SameIndexes m n = ((a b e : ℕ) → n.index a b e ≡ m.index a b e) × (n.indexes ≡ m.indexes)

-- What a call does that no number applies to.
pub data Acts (m n : Contents) : Call → Type 0 where
  -- a situation starts
  opens : {s d : ℕ} {t : Terms} → Situated m n s d (begun t) → n.situations ≡ m.situations + 1 → SameIndexes m n → Acts m n (Open s d t)
  -- the running one ends and a new one starts
  modifies : {s d b : ℕ} {t : Terms} {x : Situation} → Last (m.situation s) b x
      → ((a e : ℕ) → n.situation a e ≡ cond (s == a && d == e) (Some (begun t)) (cond (s == a && b == e) (Some (ended_on d x)) (m.situation a e)))
      → n.situations ≡ m.situations + 1 → SameIndexes m n → Acts m n (Modify s d t)
  -- the last one ends, or its end moves
  ends : {s d b : ℕ} {x : Situation} → Last (m.situation s) b x → Situated m n s b (ended_on d x) → n.situations ≡ m.situations → SameIndexes m n → Acts m n (End s d)
  -- the one that starts on that day gets new terms
  corrects : {s d : ℕ} {t : Terms} {x : Situation} → m.situation s d ≡ Some x → Situated m n s d (record { end = x.end; terms = t }) → n.situations ≡ m.situations → SameIndexes m n → Acts m n (Correct s d t)
  -- an index stands
  enters : {s k d v : ℕ} → Indexed m n s k d (Some (record { value = v })) → n.indexes ≡ m.indexes + 1 → SameSituations m n → Acts m n (Enter s k d v)
  -- it goes, and its place is free
  strikes : {s k d : ℕ} → Indexed m n s k d None → n.indexes ≡ m.indexes - 1 → SameSituations m n → Acts m n (Strike s k d)

-- A refused call changes nothing, any other acts.
abbrev pub Follows : Contents → Call → Option ℕ → Contents → Type 0
Follows m c (Some k) n = n ≡ m
Follows m c None n = Acts m n c

abbrev pub Step : Setup → Contents → Call → Option ℕ → Contents → Type 0
Step u m c answer n = Rules u m c answer × Follows m c answer n

-- Nothing is held at first.
pub record Empty (m : Contents) : Type 0 where
  pub no_situation : (s d : ℕ) → m.situation s d ≡ None
  pub no_index : (s k d : ℕ) → m.index s k d ≡ None
  pub none_situated : m.situations ≡ 0
  pub none_indexed : m.indexes ≡ 0

-- A book set up so holds this after these calls: nothing at first, then what each call makes of it.
pub data Told (u : Setup) : List Call → Contents → Type 0 where
  at_first : (m : Contents) → Empty m → Told u [] m
  after : (h : List Call) (c : Call) (answer : Option ℕ) (m n : Contents) → Told u h m → Step u m c answer n → Told u (h ++ c ∷ []) n
