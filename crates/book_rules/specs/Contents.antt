-- What a book is set up with, and what it holds.
use Rattle.std.specs.Prelude.{◌≡◌, ℕ, ◌<◌, Some, None, Option}
use Rattle.book_rules.specs.declared.Situation.{Situation}
use Rattle.book_rules.specs.declared.Index.{Index}
use Rattle.book_rules.specs.declared.Standing.{Standing}
use Rattle.book_rules.specs.declared.Standing.TheVariants.{Never, Running, Ended}

-- How many days, balance parties and sites a book has, and places for situations and indexes.
pub record Setup : Type 0 where
  pub days : ℕ
  pub parties : ℕ
  pub sites : ℕ
  pub situation_places : ℕ
  pub index_places : ℕ

-- The situation of a site that starts on a day; the index of a site's dial that stands on a day; how many of each.
pub record Contents : Type 0 where
  pub situation : ℕ → ℕ → Option Situation
  pub index : ℕ → ℕ → ℕ → Option Index
  pub situations : ℕ
  pub indexes : ℕ

-- The last situation of a site starts on day b.
pub record Last (starting : ℕ → Option Situation) (b : ℕ) (x : Situation) : Type 0 where
  pub starts : starting b ≡ Some x
  pub none_later : (c : ℕ) → b < c → starting c ≡ None

-- A site was never served, runs since b, or ended at e with start b: as its last situation says.
pub data Stands (starting : ℕ → Option Situation) : Standing → Type 0 where
  never : ((b : ℕ) → starting b ≡ None) → Stands starting Never
  running : {b : ℕ} {x : Situation} → Last starting b x → x.end ≡ None → Stands starting (Running b)
  ended : {b e : ℕ} {x : Situation} → Last starting b x → x.end ≡ Some e → Stands starting (Ended b e)
