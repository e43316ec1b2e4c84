-- What a change of one site does to what the book holds, for each call. Assumes nothing.
use Rattle.std.proofs.Common.{◌≡◌, ℕ, ◌+◌, ◌-◌, ◌<◌, Bool, cond, ◌&&◌, eqb, List, length, get_or, set, Some, None, Option, sym, refl, ap, ◌∙◌, subst, arith, get_or-set_other, get_or-set_same}
use Rattle.std.proofs.lemmas.Bool.Decides.{nat_tests}
use Rattle.book_rules.specs.declared.Terms.{Terms}
use Rattle.book_rules.specs.declared.Situation.{Situation}
use Rattle.book_rules.specs.declared.Standing.{Standing}
use Rattle.book_rules.specs.declared.Standing.TheVariants.{Never, Ended}
use Rattle.book_rules.specs.declared.Call.{Call}
use Rattle.book_rules.specs.declared.Call.TheVariants.{Open, Modify, End, Correct, Enter, Strike}
use Rattle.book_rules.specs.Contents.{Setup, Last, Stands, never, running, ended}
use Rattle.book_rules.specs.Refusing.{Applies, site_of, modify_never, modify_ended, end_never, correct_none}
use Rattle.book_rules.specs.Telling.{Situated, SameSituations, SameIndexes, Acts, opens, modifies, ends, corrects, enters, strikes, begun, ended_on}
use Rattle.book_rules.specs.Tests.{standing_by}
use Rattle.book_rules.proofs.Standings.{stands_by}
use Rattle.book.specs.declared.site.Site.{Site}
use Rattle.book.specs.Sites.{starting, standing_index, closed, renewed, after, Serves}
use Rattle.book.specs.Books.{no_site, held}
use Rattle.book.proofs.Storage.{past}

-- a call that makes one more index
abbrev pub OneIndexMore : Call → Type 0
OneIndexMore (Open s d t) = ⊥
OneIndexMore (Modify s d t) = ⊥
OneIndexMore (End s d) = ⊥
OneIndexMore (Correct s d t) = ⊥
OneIndexMore (Enter s k d v) = Unit {0}
OneIndexMore (Strike s k d) = ⊥

-- how many situations and indexes are held after a call
abbrev pub situations_after : Call → ℕ → ℕ
situations_after (Open s d t) i = i + 1
situations_after (Modify s d t) i = i + 1
situations_after (End s d) i = i
situations_after (Correct s d t) i = i
situations_after (Enter s k d v) i = i
situations_after (Strike s k d) i = i

abbrev pub indexes_after : Call → ℕ → ℕ
indexes_after (Open s d t) j = j
indexes_after (Modify s d t) j = j
indexes_after (End s d) j = j
indexes_after (Correct s d t) j = j
indexes_after (Enter s k d v) j = j + 1
indexes_after (Strike s k d) j = j - 1

module _ (xs : List Site) (s : ℕ) (x y : Site) (lt : s < length xs) (v : x ≡ get_or xs s no_site) where
  -- what is read of a site: at the site as it was put, elsewhere as it was
  read_at : {X : Type 0} (f : Site → X) (g : X → X) → f y ≡ g (f x) → (a : ℕ) → f (get_or (set xs s y) a no_site) ≡ cond (eqb s a) (g (f (get_or xs a no_site))) (f (get_or xs a no_site))
  read_at f g h a = grind (arith, nat_tests, get_or-set_other, get_or-set_same)

  one_key : {X : Type 0} (f : Site → X) (p : Bool) (new : X) → f y ≡ cond p new (f x) → (a : ℕ) → f (get_or (set xs s y) a no_site) ≡ cond (eqb s a && p) new (f (get_or xs a no_site))
  one_key f p new h a = let r = read_at f (cond p new) h a in grind arith

  two_keys : {X : Type 0} (f : Site → X) (p q : Bool) (new old : X) → f y ≡ cond p new (cond q old (f x)) → (a : ℕ) → f (get_or (set xs s y) a no_site) ≡ cond (eqb s a && p) new (cond (eqb s a && q) old (f (get_or xs a no_site)))
  two_keys f p q new old h a = let r = read_at f (λ o. cond p new (cond q old o)) h a in grind arith

  kept : {X : Type 0} (f : Site → X) → f y ≡ f x → (a : ℕ) → f (get_or (set xs s y) a no_site) ≡ f (get_or xs a no_site)
  kept f h a = let r = read_at f (λ o. o) h a in grind arith

  module _ (i j : ℕ) where
    situated : (d : ℕ) (new : Situation) (count : ℕ) → ((e : ℕ) → starting y e ≡ cond (eqb d e) (Some new) (starting x e)) → Situated (held xs i j) (held (set xs s y) count j) s d new
    situated d new count h a b = one_key (λ w. starting w b) (eqb d b) (Some new) (h b) a

    same_indexes : (count : ℕ) → ((b e : ℕ) → standing_index y b e ≡ standing_index x b e) → SameIndexes (held xs i j) (held (set xs s y) count j)
    same_indexes count h = ((λ a k e. kept (λ w. standing_index w k e) (h k e) a), refl)

    same_situations : (count : ℕ) → ((e : ℕ) → starting y e ≡ starting x e) → SameSituations (held xs i j) (held (set xs s y) i count)
    same_situations count h = ((λ a b. kept (λ w. starting w b) (h b) a), refl)

    -- how the site stands, as the book holds it
    as_held : (z : Standing) → Stands (starting x) z → Stands ((held xs i j).situation s) z
    as_held z h = subst (λ (w : Site). Stands (starting w) z) v h

    last_held : (b : ℕ) (x₀ : Situation) → Last (starting x) b x₀ → Last ((held xs i j).situation s) b x₀
    last_held b x₀ h = subst (λ (w : Site). Last (starting w) b x₀) v h

    stands : Stands (starting x) (standing_by (starting x) 36)
    stands = stands_by (starting x) 36 (past x.situations)

    -- a situation ends on a day
    ending : (d b : ℕ) (x₀ : Situation) → Last (starting x) b x₀ → ((e : ℕ) → starting y e ≡ cond (eqb b e) (closed d (starting x b)) (starting x e)) → ((b e : ℕ) → standing_index y b e ≡ standing_index x b e) → Acts (held xs i j) (held (set xs s y) i j) (End s d)
    ending d b x₀ l g k = ends (last_held b x₀ l) (situated b (ended_on d x₀) i (λ e. g e ∙ ap (λ o. cond (eqb b e) (closed d o) (starting x e)) l.starts)) refl (same_indexes i k)

    module _ (u : Setup) where
      by_end : (d : ℕ) → ((k : ℕ) → Applies u (held xs i j) (End s d) k → ⊥) → (z : Standing) → Stands (starting x) z → ((e : ℕ) → starting y e ≡ after z (End s d) (starting x) e) → ((b e : ℕ) → standing_index y b e ≡ standing_index x b e) → Acts (held xs i j) (held (set xs s y) i j) (End s d)
      by_end d none z (never p) g k = absurd (none 8 (end_never (as_held Never (never p))))
      by_end d none z (running {b} {x = x₀} l e) g k = ending d b x₀ l g k
      by_end d none z (ended {b} {x = x₀} l e) g k = ending d b x₀ l g k

      by_modify : (d : ℕ) (t : Terms) → ((k : ℕ) → Applies u (held xs i j) (Modify s d t) k → ⊥) → (z : Standing) → Stands (starting x) z → ((e : ℕ) → starting y e ≡ after z (Modify s d t) (starting x) e) → ((b e : ℕ) → standing_index y b e ≡ standing_index x b e) → Acts (held xs i j) (held (set xs s y) (i + 1) j) (Modify s d t)
      by_modify d t none z (never p) g k = absurd (none 8 (modify_never (as_held Never (never p))))
      by_modify d t none z (running {b} {x = x₀} l e) g k =
          modifies (last_held b x₀ l) (λ a c. two_keys (λ w. starting w c) (eqb d c) (eqb b c) (Some (begun t)) (Some (ended_on d x₀)) (g c ∙ ap (λ o. cond (eqb d c) (Some (begun t)) (cond (eqb b c) (closed d o) (starting x c))) l.starts) a) refl (same_indexes (i + 1) k)
      by_modify d t none z (ended {b} {e} {x = x₀} l q) g k = absurd (none 8 (modify_ended {b = b} {e = e} (as_held (Ended b e) (ended l q))))

      by_correct : (d : ℕ) (t : Terms) → ((k : ℕ) → Applies u (held xs i j) (Correct s d t) k → ⊥) → (o : Option Situation) → starting x d ≡ o → ((e : ℕ) → starting y e ≡ after Never (Correct s d t) (starting x) e) → ((b e : ℕ) → standing_index y b e ≡ standing_index x b e) → Acts (held xs i j) (held (set xs s y) i j) (Correct s d t)
      by_correct d t none None e g k = absurd (none 10 (correct_none (ap (λ w. starting w d) (sym v) ∙ e)))
      by_correct d t none (Some x₀) e g k =
          corrects (ap (λ w. starting w d) (sym v) ∙ e) (situated d (record { end = x₀.end; terms = t }) i (λ c. g c ∙ ap (λ o. cond (eqb d c) (renewed t o) (starting x c)) e)) refl (same_indexes i k)

module _ (u : Setup) (xs : List Site) (i j : ℕ) (x y : Site) where
  serving : (c : Call) → site_of c < length xs → x ≡ get_or xs (site_of c) no_site → ((k : ℕ) → Applies u (held xs i j) c k → ⊥) → Serves x y c → Acts (held xs i j) (held (set xs (site_of c) y) (situations_after c i) (indexes_after c j)) c
  serving (Open s d t) lt v none h = opens (situated xs s x y lt v i j d (begun t) (i + 1) h.situations) refl (same_indexes xs s x y lt v i j (i + 1) h.indexes)
  serving (Modify s d t) lt v none h = by_modify xs s x y lt v i j u d t none (standing_by (starting x) 36) (stands xs s x y lt v i j) h.situations h.indexes
  serving (End s d) lt v none h = by_end xs s x y lt v i j u d none (standing_by (starting x) 36) (stands xs s x y lt v i j) h.situations h.indexes
  serving (Correct s d t) lt v none h = by_correct xs s x y lt v i j u d t none (starting x d) refl h.situations h.indexes
  serving (Enter s k d w) lt v none h = enters (λ a b q. one_key xs s x y lt v (λ z. standing_index z b q) (eqb k b && eqb d q) (Some (record { value = w })) (h.indexes b q) a) refl (same_situations xs s x y lt v i j (j + 1) h.situations)
  serving (Strike s k d) lt v none h = strikes (λ a b q. one_key xs s x y lt v (λ z. standing_index z b q) (eqb k b && eqb d q) None (h.indexes b q) a) refl (same_situations xs s x y lt v i j (j - 1) h.situations)

  -- the site has served the call, and the places are counted
  pub acted : (c : Call) (s i' j' : ℕ) → s ≡ site_of c → i' ≡ situations_after c i → j' ≡ indexes_after c j → site_of c < length xs → x ≡ get_or xs (site_of c) no_site → ((k : ℕ) → Applies u (held xs i j) c k → ⊥) → Serves x y c → Acts (held xs i j) (held (set xs s y) i' j') c
  acted c s i' j' e p q lt v none h = rw (e, p, q) (serving c lt v none h)
