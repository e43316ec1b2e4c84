-- The conditions of the refusals as tests, in the order of their numbers; n is the number of days that are looked at.
-- That the first test that holds is the upper number that applies is a theorem (specs/Laws.antt, TestsRule).
use Rattle.std.specs.Prelude.{ℕ, zero, suc, Bool, true, false, cond, not, ◌&&◌, ◌||◌, List, [], ◌∷◌, is_some, is_ok, Some, None, Option, nat_le, nat_lt}
use Rattle.profiles.specs.Table.{profile_of}
use Rattle.book_rules.specs.declared.Terms.{Terms}
use Rattle.book_rules.specs.declared.Situation.{Situation}
use Rattle.book_rules.specs.declared.Index.{Index}
use Rattle.book_rules.specs.declared.Standing.{Standing}
use Rattle.book_rules.specs.declared.Standing.TheVariants.{Never, Running, Ended}
use Rattle.book_rules.specs.declared.Call.{Call}
use Rattle.book_rules.specs.declared.Call.TheVariants.{Open, Modify, End, Correct, Enter, Strike}
use Rattle.book_rules.specs.Contents.{Setup, Contents}
use Rattle.book_rules.specs.Refusing.{site_of}

-- The first number whose test holds.
abbrev pub first : List (ℕ × Bool) → Option ℕ
first [] = None
first (x ∷ xs) = cond x.1 (Some x.0) (first xs)

-- How a site stands after a situation that starts on b.
abbrev pub standing_on : Standing → ℕ → Option Situation → Standing
standing_on t b None = t
standing_on t b (Some x) = elim x.end [ None ↦ Running b | Some e ↦ Ended b e ]

-- How a site stands by the situations that start before day n.
unfoldable pub standing_by : (ℕ → Option Situation) → ℕ → Standing
standing_by f zero = Never
standing_by f (suc b) = standing_on (standing_by f b) b (f b)

-- A value on day d against the index that stands on day e.
abbrev pub against : ℕ → ℕ → ℕ → Option Index → Bool
against d v e None = false
against d v e (Some x) = (nat_lt e d && nat_lt v x.value) || (nat_lt d e && nat_lt x.value v)

-- Some index on a day before n contradicts the value.
unfoldable pub crossed : (ℕ → Option Index) → ℕ → ℕ → ℕ → Bool
crossed f d v zero = false
crossed f d v (suc e) = crossed f d v e || against d v e (f e)

-- What is asked of the terms of a call that has terms.
abbrev pub of_terms : (Terms → Bool) → Call → Bool
of_terms p (Open s d t) = p t
of_terms p (Modify s d t) = p t
of_terms p (End s d) = false
of_terms p (Correct s d t) = p t
of_terms p (Enter s k d v) = false
of_terms p (Strike s k d) = false

abbrev pub beyond : Setup → Call → Bool
beyond u (Open s d t) = nat_le u.days d
beyond u (Modify s d t) = nat_le u.days d
beyond u (End s d) = nat_lt u.days d
beyond u (Correct s d t) = nat_le u.days d
beyond u (Enter s k d v) = nat_lt u.days d
beyond u (Strike s k d) = nat_lt u.days d

-- Tests of how the site stands, by call: open on a running site; not served; a day that does not fit.
abbrev pub runs : Standing → Bool
runs Never = false
runs (Running b) = true
runs (Ended b e) = false

abbrev pub opened_running : Standing → Call → Bool
opened_running z (Open s d t) = runs z
opened_running z (Modify s d t) = false
opened_running z (End s d) = false
opened_running z (Correct s d t) = false
opened_running z (Enter s k d v) = false
opened_running z (Strike s k d) = false

abbrev pub served : Standing → Bool
served Never = false
served (Running b) = true
served (Ended b e) = true

abbrev pub not_served : Standing → Call → Bool
not_served z (Open s d t) = false
not_served z (Modify s d t) = not (runs z)
not_served z (End s d) = not (served z)
not_served z (Correct s d t) = false
not_served z (Enter s k d v) = false
not_served z (Strike s k d) = false

abbrev pub open_unfit : ℕ → Standing → Bool
open_unfit d Never = false
open_unfit d (Running b) = false
open_unfit d (Ended b e) = nat_lt d e

abbrev pub modify_unfit : ℕ → Standing → Bool
modify_unfit d Never = false
modify_unfit d (Running b) = nat_le d b
modify_unfit d (Ended b e) = false

abbrev pub end_unfit : ℕ → Standing → Bool
end_unfit d Never = false
end_unfit d (Running b) = nat_le d b
end_unfit d (Ended b e) = nat_le d b || nat_le e d

abbrev pub unfit_day : Standing → Call → Bool
unfit_day z (Open s d t) = open_unfit d z
unfit_day z (Modify s d t) = modify_unfit d z
unfit_day z (End s d) = end_unfit d z
unfit_day z (Correct s d t) = false
unfit_day z (Enter s k d v) = false
unfit_day z (Strike s k d) = false

abbrev pub nothing_to_correct : Contents → Call → Bool
nothing_to_correct m (Open s d t) = false
nothing_to_correct m (Modify s d t) = false
nothing_to_correct m (End s d) = false
nothing_to_correct m (Correct s d t) = not (is_some (m.situation s d))
nothing_to_correct m (Enter s k d v) = false
nothing_to_correct m (Strike s k d) = false

abbrev pub situations_full : Setup → Contents → Call → Bool
situations_full u m (Open s d t) = nat_le u.situation_places m.situations
situations_full u m (Modify s d t) = nat_le u.situation_places m.situations
situations_full u m (End s d) = false
situations_full u m (Correct s d t) = false
situations_full u m (Enter s k d v) = false
situations_full u m (Strike s k d) = false

abbrev pub strange_dial : Call → Bool
strange_dial (Open s d t) = false
strange_dial (Modify s d t) = false
strange_dial (End s d) = false
strange_dial (Correct s d t) = false
strange_dial (Enter s k d v) = nat_lt k 1 || nat_lt 2 k
strange_dial (Strike s k d) = nat_lt k 1 || nat_lt 2 k

-- The tests that belong to one call alone.
abbrev pub of_enter : (ℕ → ℕ → ℕ → ℕ → Bool) → Call → Bool
of_enter p (Open s d t) = false
of_enter p (Modify s d t) = false
of_enter p (End s d) = false
of_enter p (Correct s d t) = false
of_enter p (Enter s k d v) = p s k d v
of_enter p (Strike s k d) = false

abbrev pub nothing_to_strike : Contents → Call → Bool
nothing_to_strike m (Open s d t) = false
nothing_to_strike m (Modify s d t) = false
nothing_to_strike m (End s d) = false
nothing_to_strike m (Correct s d t) = false
nothing_to_strike m (Enter s k d v) = false
nothing_to_strike m (Strike s k d) = not (is_some (m.index s k d))

abbrev pub standing : ℕ → Contents → ℕ → Standing
standing n m s = standing_by (m.situation s) n

abbrev pub tests : ℕ → Setup → Contents → Call → List (ℕ × Bool)
tests n u m c =
    (3, nat_le u.sites (site_of c))
    ∷ (4, of_terms (λ t. nat_le u.parties t.party) c)
    ∷ (5, beyond u c)
    ∷ (6, of_terms (λ t. not (is_ok (profile_of t.class t.power))) c)
    ∷ (7, opened_running (standing n m (site_of c)) c)
    ∷ (8, not_served (standing n m (site_of c)) c)
    ∷ (9, unfit_day (standing n m (site_of c)) c)
    ∷ (10, nothing_to_correct m c)
    ∷ (11, situations_full u m c)
    ∷ (12, strange_dial c)
    ∷ (13, of_enter (λ s k d v. nat_lt 999999999 v) c)
    ∷ (14, of_enter (λ s k d v. is_some (m.index s k d)) c)
    ∷ (15, of_enter (λ s k d v. crossed (m.index s k) d v n) c)
    ∷ (16, of_enter (λ s k d v. nat_le u.index_places m.indexes) c)
    ∷ (17, nothing_to_strike m c)
    ∷ []
