-- What follows from the telling alone, for every history.
use Rattle.std.specs.Prelude.{◌≡◌, ℕ, ◌<◌, ◌≤◌, List, Some, None, Err, Option}
use Rattle.refusals.specs.declared.Refusal.TheVariants.{NoSuchProfile}
use Rattle.profiles.specs.Table.{profile_of}
use Rattle.book_rules.specs.declared.Situation.{Situation}
use Rattle.book_rules.specs.declared.Index.{Index}
use Rattle.book_rules.specs.declared.Call.{Call}
use Rattle.book_rules.specs.Contents.{Setup, Contents}
use Rattle.book_rules.specs.Refusing.{Rules}
use Rattle.book_rules.specs.Telling.{Told}
use Rattle.book_rules.specs.Tests.{first, tests}

-- Every history tells some content, and only one.
pub record TellsOne : Type 0 where
  pub some : (u : Setup) (h : List Call) → (m : Contents) × Told u h m
  pub once : (u : Setup) (h : List Call) (m n : Contents) → Told u h m → Told u h n → m ≡ n

-- Nothing is held from day n on.
pub record Within (n : ℕ) (m : Contents) : Type 0 where
  pub situations : (s b : ℕ) → n ≤ b → m.situation s b ≡ None
  pub indexes : (s k d : ℕ) → n ≤ d → m.index s k d ≡ None

-- The first test that holds gives the upper number that applies, if it looks at all days on which something is held.
abbrev pub TestsRule : Type 0
TestsRule = (n : ℕ) (u : Setup) (m : Contents) → Within n m → (c : Call) → Rules u m c (first (tests n u m c))

-- The situations of a site, by their start days (which so are different): each ends after its start, and by the start
-- of any later one, so that they do not overlap and only the last may run on; all lie within the days.
pub record Chain (days : ℕ) (starting : ℕ → Option Situation) : Type 0 where
  pub ends_later : (b e : ℕ) (x : Situation) → starting b ≡ Some x → x.end ≡ Some e → b < e
  pub apart : (b c : ℕ) (x y : Situation) → b < c → starting b ≡ Some x → starting c ≡ Some y → (e : ℕ) × (x.end ≡ Some e) × (e ≤ c)
  pub starts_within : (b : ℕ) (x : Situation) → starting b ≡ Some x → b < days
  pub ends_within : (b e : ℕ) (x : Situation) → starting b ≡ Some x → x.end ≡ Some e → e ≤ days

-- The indexes of a dial, by day: they never fall with the days, lie within the days and below the bound.
pub record Track (days : ℕ) (on : ℕ → Option Index) : Type 0 where
  pub never_fall : (d e : ℕ) (x y : Index) → d < e → on d ≡ Some x → on e ≡ Some y → x.value ≤ y.value
  pub within : (d : ℕ) (x : Index) → on d ≡ Some x → d ≤ days
  pub bounded : (d : ℕ) (x : Index) → on d ≡ Some x → x.value ≤ 999999999

-- A situation is of a known site and party, and has a profile.
pub record KnownSituation (u : Setup) (s : ℕ) (x : Situation) : Type 0 where
  pub site : s < u.sites
  pub party : x.terms.party < u.parties
  pub profile : profile_of x.terms.class x.terms.power ≡ Err NoSuchProfile → ⊥

-- An index is of a known site, and of dial 1 or 2.
pub record KnownDial (u : Setup) (s k : ℕ) : Type 0 where
  pub site : s < u.sites
  pub least : 1 ≤ k
  pub most : k ≤ 2

pub record Orderly (u : Setup) (m : Contents) : Type 0 where
  pub chains : (s : ℕ) → Chain u.days (m.situation s)
  pub tracks : (s k : ℕ) → Track u.days (m.index s k)
  pub known_situations : (s b : ℕ) (x : Situation) → m.situation s b ≡ Some x → KnownSituation u s x
  pub known_dials : (s k d : ℕ) (x : Index) → m.index s k d ≡ Some x → KnownDial u s k

abbrev pub AlwaysOrderly : Type 0
AlwaysOrderly = (u : Setup) (h : List Call) (m : Contents) → Told u h m → Orderly u m
