-- Why a call is refused: which numbers apply to it.
use Rattle.std.specs.Prelude.{◌≡◌, ℕ, ◌<◌, ◌≤◌, ◌⊎◌, Some, None, Err, Option}
use Rattle.refusals.specs.declared.Refusal.TheVariants.{NoSuchProfile}
use Rattle.profiles.specs.Table.{profile_of}
use Rattle.book_rules.specs.declared.Terms.{Terms}
use Rattle.book_rules.specs.declared.Index.{Index}
use Rattle.book_rules.specs.declared.Standing.TheVariants.{Never, Running, Ended}
use Rattle.book_rules.specs.declared.Call.{Call}
use Rattle.book_rules.specs.declared.Call.TheVariants.{Open, Modify, End, Correct, Enter, Strike}
use Rattle.book_rules.specs.Contents.{Setup, Contents, Stands}

abbrev pub site_of : Call → ℕ
site_of (Open s d t) = s
site_of (Modify s d t) = s
site_of (End s d) = s
site_of (Correct s d t) = s
site_of (Enter s k d v) = s
site_of (Strike s k d) = s

-- What holds of the terms of a call that has terms; of a call without, nothing does.
abbrev pub OfTerms : (Terms → Type 0) → Call → Type 0
OfTerms P (Open s d t) = P t
OfTerms P (Modify s d t) = P t
OfTerms P (End s d) = ⊥
OfTerms P (Correct s d t) = P t
OfTerms P (Enter s k d v) = ⊥
OfTerms P (Strike s k d) = ⊥

-- The day is over D for end, enter and strike, over D − 1 for the others.
abbrev pub Beyond : Setup → Call → Type 0
Beyond u (Open s d t) = u.days ≤ d
Beyond u (Modify s d t) = u.days ≤ d
Beyond u (End s d) = u.days < d
Beyond u (Correct s d t) = u.days ≤ d
Beyond u (Enter s k d v) = u.days < d
Beyond u (Strike s k d) = u.days < d

-- The dial of a call that has one is neither 1 nor 2.
abbrev pub StrangeDial : Call → Type 0
StrangeDial (Open s d t) = ⊥
StrangeDial (Modify s d t) = ⊥
StrangeDial (End s d) = ⊥
StrangeDial (Correct s d t) = ⊥
StrangeDial (Enter s k d v) = (k < 1) ⊎ (2 < k)
StrangeDial (Strike s k d) = (k < 1) ⊎ (2 < k)

-- Openings and modifications make one more situation.
abbrev pub OneMore : Call → Type 0
OneMore (Open s d t) = Unit {0}
OneMore (Modify s d t) = Unit {0}
OneMore (End s d) = ⊥
OneMore (Correct s d t) = ⊥
OneMore (Enter s k d v) = ⊥
OneMore (Strike s k d) = ⊥

-- A number applies to a call.
pub data Applies (u : Setup) (m : Contents) : Call → ℕ → Type 0 where
  -- the site is not below the number of sites
  no_site : {c : Call} → u.sites ≤ site_of c → Applies u m c 3
  -- the party is not below the number of parties
  no_party : {c : Call} → OfTerms (λ t. u.parties ≤ t.party) c → Applies u m c 4
  -- the day lies past the horizon
  no_day : {c : Call} → Beyond u c → Applies u m c 5
  -- class and power are not in the profile table
  no_profile : {c : Call} → OfTerms (λ t. profile_of t.class t.power ≡ Err NoSuchProfile) c → Applies u m c 6
  -- a running site is opened
  open_running : {s d b : ℕ} {t : Terms} → Stands (m.situation s) (Running b) → Applies u m (Open s d t) 7
  -- a site is modified that is not running
  modify_never : {s d : ℕ} {t : Terms} → Stands (m.situation s) Never → Applies u m (Modify s d t) 8
  modify_ended : {s d b e : ℕ} {t : Terms} → Stands (m.situation s) (Ended b e) → Applies u m (Modify s d t) 8
  -- a site is ended that was never served
  end_never : {s d : ℕ} → Stands (m.situation s) Never → Applies u m (End s d) 8
  -- an opening before the end, a modification or an ending not after the start, an ending not before the end
  open_early : {s d b e : ℕ} {t : Terms} → Stands (m.situation s) (Ended b e) → d < e → Applies u m (Open s d t) 9
  modify_early : {s d b : ℕ} {t : Terms} → Stands (m.situation s) (Running b) → d ≤ b → Applies u m (Modify s d t) 9
  end_early : {s d b : ℕ} → Stands (m.situation s) (Running b) → d ≤ b → Applies u m (End s d) 9
  end_again_early : {s d b e : ℕ} → Stands (m.situation s) (Ended b e) → d ≤ b → Applies u m (End s d) 9
  end_again_late : {s d b e : ℕ} → Stands (m.situation s) (Ended b e) → e ≤ d → Applies u m (End s d) 9
  -- no situation of the site starts on the day to be corrected
  correct_none : {s d : ℕ} {t : Terms} → m.situation s d ≡ None → Applies u m (Correct s d t) 10
  -- one more situation, and no place is free
  situations_full : {c : Call} → OneMore c → u.situation_places ≤ m.situations → Applies u m c 11
  -- the dial is neither 1 nor 2
  no_dial : {c : Call} → StrangeDial c → Applies u m c 12
  -- the index is over 999,999,999
  enter_large : {s k d v : ℕ} → 999999999 < v → Applies u m (Enter s k d v) 13
  -- one stands there
  enter_again : {s k d v : ℕ} {x : Index} → m.index s k d ≡ Some x → Applies u m (Enter s k d v) 14
  -- the index is below an earlier or above a later one of its dial
  enter_below : {s k d v e : ℕ} {x : Index} → e < d → m.index s k e ≡ Some x → v < x.value → Applies u m (Enter s k d v) 15
  enter_above : {s k d v e : ℕ} {x : Index} → d < e → m.index s k e ≡ Some x → x.value < v → Applies u m (Enter s k d v) 15
  -- one more index, and no place is free
  indexes_full : {s k d v : ℕ} → u.index_places ≤ m.indexes → Applies u m (Enter s k d v) 16
  -- none stands there
  strike_none : {s k d : ℕ} → m.index s k d ≡ None → Applies u m (Strike s k d) 17

-- Of the numbers that apply the upper one, the lowest, answers; none if none applies.
abbrev pub Upper : (ℕ → Type 0) → Option ℕ → Type 0
Upper A (Some k) = A k × ((j : ℕ) → j < k → A j → ⊥)
Upper A None = (j : ℕ) → A j → ⊥

abbrev pub Rules : Setup → Contents → Call → Option ℕ → Type 0
Rules u m c answer = Upper (Applies u m c) answer
