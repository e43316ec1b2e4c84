-- What is kept of a site, as functions of the day.
use Rattle.std.specs.Prelude.{◌≡◌, ℕ, ◌<◌, ◌≤◌, Bool, true, false, cond, ◌&&◌, Some, None, Option, ◌==◌, nat_le, nat_lt, slice_index_or}
use Rattle.profiles.specs.declared.Dial.{Dial}
use Rattle.profiles.specs.declared.Dial.TheVariants.{First, Second}
use Rattle.book_rules.specs.declared.Situation.{Situation}
use Rattle.book_rules.specs.declared.Index.{Index}
use Rattle.book_rules.specs.declared.Terms.{Terms}
use Rattle.book_rules.specs.declared.Standing.{Standing}
use Rattle.book_rules.specs.declared.Standing.TheVariants.{Never, Running, Ended}
use Rattle.book_rules.specs.declared.Call.{Call}
use Rattle.book_rules.specs.declared.Call.TheVariants.{Open, Modify, End, Correct, Enter, Strike}
use Rattle.book_rules.specs.Telling.{begun, ended_on}
use Rattle.book_rules.specs.Tests.{standing_by}
use Rattle.book.specs.declared.by_day.ByDay.{ByDay}
use Rattle.book.specs.declared.site.Site.{Site}
use Rattle.book_rules.specs.declared.Service.{Service}

abbrev pub on : {X : Type 0} → ByDay X → ℕ → Option X
on x d = slice_index_or x.days d None

-- The situation of a site that starts on a day; the index of a dial on a day.
abbrev pub starting : Site → ℕ → Option Situation
starting x d = on x.situations d

abbrev pub standing_index : Site → ℕ → ℕ → Option Index
standing_index x k d = cond (k == 1) (on x.first d) (cond (k == 2) (on x.second d) None)

-- The indexes of a dial.
abbrev pub dial_days : Site → Dial → ByDay Index
dial_days x First = x.first
dial_days x Second = x.second

-- One situation is put, one index is put; the others stay.
abbrev pub Starts : (ℕ → Option Situation) → (ℕ → Option Situation) → ℕ → Option Situation → Type 0
Starts f g d o = (e : ℕ) → g e ≡ cond (d == e) o (f e)

abbrev pub SameStarts : Site → Site → Type 0
SameStarts x y = (e : ℕ) → starting y e ≡ starting x e

abbrev pub StandsAt : Site → Site → ℕ → ℕ → Option Index → Type 0
StandsAt x y k d o = (b e : ℕ) → standing_index y b e ≡ cond (k == b && d == e) o (standing_index x b e)

pub record NoEntries (x : Site) : Type 0 where
  pub no_situation : (d : ℕ) → starting x d ≡ None
  pub no_index : (k d : ℕ) → standing_index x k d ≡ None

-- A situation with its end on day d, and one with new terms, if there is one.
abbrev pub closed : ℕ → Option Situation → Option Situation
closed d None = None
closed d (Some x) = Some (ended_on d x)

abbrev pub renewed : Terms → Option Situation → Option Situation
renewed t None = None
renewed t (Some x) = Some (record { end = x.end; terms = t })

abbrev pub corrected : ℕ → Terms → (ℕ → Option Situation) → ℕ → Option Situation
corrected d t f e = cond (d == e) (renewed t (f d)) (f e)

abbrev pub Closes : (ℕ → Option Situation) → (ℕ → Option Situation) → ℕ → ℕ → Type 0
Closes f g b d = (e : ℕ) → g e ≡ cond (b == e) (closed d (f b)) (f e)

-- What a call makes of the situations of a site that stands so.
abbrev pub after : Standing → Call → (ℕ → Option Situation) → ℕ → Option Situation
after z (Open s d t) f e = cond (d == e) (Some (begun t)) (f e)
after Never (Modify s d t) f e = f e
after (Running b) (Modify s d t) f e = cond (d == e) (Some (begun t)) (cond (b == e) (closed d (f b)) (f e))
after (Ended b x) (Modify s d t) f e = f e
after Never (End s d) f e = f e
after (Running b) (End s d) f e = cond (b == e) (closed d (f b)) (f e)
after (Ended b x) (End s d) f e = cond (b == e) (closed d (f b)) (f e)
after z (Correct s d t) f e = corrected d t f e
after z (Enter s k d v) f e = f e
after z (Strike s k d) f e = f e

-- What it makes of the indexes.
abbrev pub indexed_after : Call → (ℕ → ℕ → Option Index) → ℕ → ℕ → Option Index
indexed_after (Open s d t) f b e = f b e
indexed_after (Modify s d t) f b e = f b e
indexed_after (End s d) f b e = f b e
indexed_after (Correct s d t) f b e = f b e
indexed_after (Enter s k d v) f b e = cond (k == b && d == e) (Some (record { value = v })) (f b e)
indexed_after (Strike s k d) f b e = cond (k == b && d == e) None (f b e)

pub record Serves (x y : Site) (c : Call) : Type 0 where
  pub situations : (e : ℕ) → starting y e ≡ after (standing_by (starting x) 36) c (starting x) e
  pub indexes : (b e : ℕ) → standing_index y b e ≡ indexed_after c (standing_index x) b e

-- An index of that dial, on that day, is kept.
pub record IsKeptAt (k d : ℕ) : Type 0 where
  pub least : 1 ≤ k
  pub most : k ≤ 2
  pub day : d < 36

-- What a call puts is kept.
abbrev pub IsKept : Call → Type 0
IsKept (Open s d t) = d < 36
IsKept (Modify s d t) = d < 36
IsKept (End s d) = Unit {0}
IsKept (Correct s d t) = Unit {0}
IsKept (Enter s k d v) = IsKeptAt k d
IsKept (Strike s k d) = IsKeptAt k d

-- A situation covers its start day and all days before its end.
abbrev pub not_ended : ℕ → Option ℕ → Bool
not_ended d None = true
not_ended d (Some e) = nat_lt d e

abbrev pub covering : ℕ → Situation → ℕ → Bool
covering b x d = nat_le b d && not_ended d x.end

abbrev pub service_of : ℕ → Option Situation → ℕ → Option Service
service_of b None d = None
service_of b (Some x) d = cond (covering b x d) (Some (record { start = b; situation = x })) None

-- The situation that covers a day, with its start; none if none does.
abbrev pub Serving : (ℕ → Option Situation) → ℕ → Option Service → Type 0
Serving f d (Some v) = (f v.start ≡ Some v.situation) × (covering v.start v.situation d ≡ true)
Serving f d None = (b : ℕ) (x : Situation) → f b ≡ Some x → covering b x d ≡ false
