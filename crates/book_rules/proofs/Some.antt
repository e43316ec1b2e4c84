-- Every history tells some content. Assumes nothing.
use Rattle.std.proofs.Common.{◌≡◌, ℕ, ◌+◌, ◌-◌, cond, ◌&&◌, eqb, List, [], ◌∷◌, ◌++◌, Some, None, Option, sym, refl, subst, append_assoc, append-nil, arith}
use Rattle.book_rules.specs.declared.Situation.{Situation}
use Rattle.book_rules.specs.declared.Index.{Index}
use Rattle.book_rules.specs.declared.Standing.{Standing}
use Rattle.book_rules.specs.declared.Call.{Call}
use Rattle.book_rules.specs.declared.Call.TheVariants.{Open, Modify, End, Correct, Enter, Strike}
use Rattle.book_rules.specs.Contents.{Setup, Contents, Last, Stands, never, running, ended}
use Rattle.book_rules.specs.Refusing.{Applies, modify_never, modify_ended, end_never, correct_none, Rules}
use Rattle.book_rules.specs.Telling.{Acts, opens, modifies, ends, corrects, enters, strikes, begun, ended_on, Step, Told, at_first, after}
use Rattle.book_rules.specs.Tests.{first, tests, standing_by}
use Rattle.book_rules.specs.Laws.{Orderly, Within}
use Rattle.book_rules.proofs.Keys.{nothing}
use Rattle.book_rules.proofs.Standings.{stands_by}
use Rattle.book_rules.proofs.Rulings.{rules}
use Rattle.book_rules.proofs.Orders.{always_orderly}

-- situations and indexes lie within the days
pub within : (u : Setup) (m : Contents) → Orderly u m → Within (u.days + 1) m
within u m o = record {
  situations = λ s b h. nothing (m.situation s b) (λ x e. let w = (o.chains s).starts_within b x e in omega arith);
  indexes = λ s k d h. nothing (m.index s k d) (λ x e. let w = (o.tracks s k).within d x e in omega arith);
}

-- a change of one situation, or of one index
situated : Contents → (ℕ → ℕ → Option Situation) → ℕ → Contents
situated m f count = record { situation = f; index = m.index; situations = count; indexes = m.indexes }

indexed : Contents → (ℕ → ℕ → ℕ → Option Index) → ℕ → Contents
indexed m f count = record { situation = m.situation; index = f; situations = m.situations; indexes = count }

module _ (u : Setup) (m : Contents) (o : Orderly u m) where
  stands : (s : ℕ) → Stands (m.situation s) (standing_by (m.situation s) (u.days + 1))
  stands s = stands_by (m.situation s) (u.days + 1) ((within u m o).situations s)

  -- a call that no number applies to can act
  acts : (c : Call) → ((j : ℕ) → Applies u m c j → ⊥) → (n : Contents) × Acts m n c
  unfolding situated indexed
  acts (Open s d t) none = (situated m (λ a b. cond (eqb s a && eqb d b) (Some (begun t)) (m.situation a b)) (m.situations + 1), opens (λ a b. refl) refl ((λ a b e. refl), refl))
  acts (Modify s d t) none = by (standing_by (m.situation s) (u.days + 1)) (stands s)
    where
      by : (z : Standing) → Stands (m.situation s) z → (n : Contents) × Acts m n (Modify s d t)
      by z (never p) = absurd (none 8 (modify_never (never p)))
      by z (running {b} {x} l e) = (
        situated m (λ a k. cond (eqb s a && eqb d k) (Some (begun t)) (cond (eqb s a && eqb b k) (Some (ended_on d x)) (m.situation a k))) (m.situations + 1),
        modifies l (λ a k. refl) refl ((λ a k i. refl), refl),
      )
      by z (ended {b} {e} {x} l q) = absurd (none 8 (modify_ended {b = b} {e = e} (ended l q)))
  acts (End s d) none = by (standing_by (m.situation s) (u.days + 1)) (stands s)
    where
      ended_at : (b : ℕ) (x : Situation) → Last (m.situation s) b x → (n : Contents) × Acts m n (End s d)
      ended_at b x l = (situated m (λ a k. cond (eqb s a && eqb b k) (Some (ended_on d x)) (m.situation a k)) m.situations, ends l (λ a k. refl) refl ((λ a k i. refl), refl))

      by : (z : Standing) → Stands (m.situation s) z → (n : Contents) × Acts m n (End s d)
      by z (never p) = absurd (none 8 (end_never (never p)))
      by z (running {b} {x} l e) = ended_at b x l
      by z (ended {b} {e} {x} l q) = ended_at b x l
  acts (Correct s d t) none = by (m.situation s d) refl
    where
      by : (z : Option Situation) → m.situation s d ≡ z → (n : Contents) × Acts m n (Correct s d t)
      by None e = absurd (none 10 (correct_none e))
      by (Some x) e = (situated m (λ a b. cond (eqb s a && eqb d b) (Some (record { end = x.end; terms = t })) (m.situation a b)) m.situations, corrects e (λ a b. refl) refl ((λ a b i. refl), refl))
  acts (Enter s k d v) none = (indexed m (λ a b e. cond (eqb s a && (eqb k b && eqb d e)) (Some (record { value = v })) (m.index a b e)) (m.indexes + 1), enters (λ a b e. refl) refl ((λ a b. refl), refl))
  acts (Strike s k d) none = (indexed m (λ a b e. cond (eqb s a && (eqb k b && eqb d e)) None (m.index a b e)) (m.indexes - 1), strikes (λ a b e. refl) refl ((λ a b. refl), refl))

  step : (c : Call) (answer : Option ℕ) → Rules u m c answer → (n : Contents) × Step u m c answer n
  step c (Some k) r = (m, (r, refl))
  step c None r = let a = acts c r in (a.0, (r, a.1))

-- histories go on
goes_on : (u : Setup) (k h : List Call) (m : Contents) → Told u h m → (n : Contents) × Told u (h ++ k) n
goes_on u [] h m t = (m, subst (λ (l : List Call). Told u l m) (sym (append-nil h)) t)
goes_on u (c ∷ k) h m t =
    let o = always_orderly u h m t in
    let answer = first (tests (u.days + 1) u m c) in
    let s = step u m o c answer (rules (u.days + 1) u m (within u m o) c) in
    let on = goes_on u k (h ++ c ∷ []) s.0 (after h c answer m s.0 t s.1) in
    (on.0, subst (λ (l : List Call). Told u l on.0) (append_assoc h (c ∷ []) k) on.1)

pub some : (u : Setup) (h : List Call) → (m : Contents) × Told u h m
some u h = goes_on u h [] nothing (at_first nothing (record { no_situation = λ s d. refl; no_index = λ s k d. refl; none_situated = refl; none_indexed = refl }))
  where
    nothing : Contents
    nothing = record { situation = λ s d. None; index = λ s k d. None; situations = 0; indexes = 0 }
