-- What a book is set up with and what it holds, read off its storage.
use Rattle.std.specs.Prelude.{◌≡◌, ℕ, ◌+◌, ◌-◌, ◌<◌, ◌≤◌, min, Bool, true, false, cond, ◌&&◌, List, [], ◌∷◌, ◌++◌, replicate, Some, None, Ok, Err, vec_items, vec_len, Option, Result, nat_le, slice_index_or, refl}
use Rattle.refusals.specs.declared.Refusal.{Refusal}
use Rattle.refusals.specs.Numbers.{number_of}
use Rattle.book_rules.specs.declared.Call.{Call}
use Rattle.book_rules.specs.declared.Standing.{Standing}
use Rattle.book_rules.specs.Contents.{Setup, Contents, Stands}
use Rattle.book_rules.specs.Telling.{Step, Told}
use Rattle.book.specs.declared.by_day.ByDay.{ByDay}
use Rattle.book.specs.declared.site.Site.{Site}
use Rattle.book.specs.declared.store.Book.{Book}
use Rattle.book_rules.specs.declared.SetUp.{SetUp}
use Rattle.book_rules.specs.declared.SetUpError.{SetUpError}
use Rattle.book_rules.specs.declared.SetUpError.TheVariants.{Refused, OutOfMemory}
use Rattle.book.specs.Sites.{starting, standing_index, NoEntries}

-- A site that keeps nothing stands for every site that the book has not.
unfoldable pub no_days : {X : Type 0} → ByDay X
no_days = record { days = replicate 36 None; long = refl }

unfoldable pub no_site : Site
no_site = record { situations = no_days; first = no_days; second = no_days }

-- Sites that keep nothing.
abbrev pub AllEmpty : List Site → Type 0
AllEmpty xs = (s : ℕ) → NoEntries (slice_index_or xs s no_site)

abbrev pub setup : Book → Setup
setup b = record { days = b.days; parties = b.parties; sites = vec_len b.sites; situation_places = b.situations.most; index_places = b.indexes.most }

abbrev pub held : List Site → ℕ → ℕ → Contents
held xs i j = record { situation = λ s. starting (slice_index_or xs s no_site); index = λ s. standing_index (slice_index_or xs s no_site); situations = i; indexes = j }

abbrev pub contents : Book → Contents
contents b = held (vec_items b.sites) b.situations.taken b.indexes.taken

-- The number of a ruling's refusal.
abbrev pub ruled : Option Refusal → Option ℕ
ruled None = None
ruled (Some r) = Some (number_of r)

-- The number that a call was answered with, none where it was made.
abbrev pub answered : {X : Type 0} → Result X Refusal → Option ℕ
answered (Ok x) = None
answered (Err r) = Some (number_of r)

-- A call was made of a book b, or refused, and left a: what it was set up with stays; the answer and what is held then
-- are those of the rules; and for every history that told what b held, that history and this call tell what a holds.
pub record Made {X : Type 0} (b : Book) (c : Call) (r : Result X Refusal) (a : Book) : Type 0 where
  pub same : setup a ≡ setup b
  pub step : Step (setup b) (contents b) c (answered r) (contents a)
  pub told : (h : List Call) → Told (setup b) h (contents b) → Told (setup a) (h ++ c ∷ []) (contents a)

-- 1 to 35 days that all lie between 1 January 2001 (date 0) and 31 December 2099 (date 36,158), 1 to 16 parties, 1 to
-- 256 sites.
abbrev pub within_bounds : SetUp → Bool
within_bounds x = nat_le 1 x.days && (nat_le x.days 35 && (nat_le (x.first + x.days) 36159 && (nat_le 1 x.parties && (nat_le x.parties 16 && (nat_le 1 x.sites && nat_le x.sites 256)))))

-- Places past 1,024 and 8,192 stay unused.
abbrev pub as_set : SetUp → Setup
as_set x = record { days = x.days; parties = x.parties; sites = x.sites; situation_places = min x.situation_places 1024; index_places = min x.index_places 8192 }

-- A book of these bounds that no call has been made of; or refusal 1, outside the bounds and only there; or no memory.
abbrev pub SetUpAnswer : SetUp → Result Book SetUpError → Type 0
SetUpAnswer x (Ok b) = (within_bounds x ≡ true) × ((setup b ≡ as_set x) × Told (as_set x) [] (contents b))
SetUpAnswer x (Err (Refused r)) = (within_bounds x ≡ false) × (number_of r ≡ 1)
SetUpAnswer x (Err OutOfMemory) = within_bounds x ≡ true

-- How a site stands; none is said of a site that the book has not.
abbrev pub StandsSo : Book → ℕ → Option Standing → Type 0
StandsSo b s (Some z) = (s < (setup b).sites) × Stands ((contents b).situation s) z
StandsSo b s None = (setup b).sites ≤ s

-- The places that are left of so many.
abbrev pub left_of : ℕ → ℕ → Option ℕ
left_of places taken = cond (nat_le taken places) (Some (places - taken)) None
