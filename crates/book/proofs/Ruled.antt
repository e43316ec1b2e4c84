-- What the tests of a call find is the ruling, and a refused call changes nothing. Assumes nothing.
use Rattle.std.proofs.Common.{◌≡◌, ℕ, ◌<◌, Bool, false, cond, ◌||◌, eqb, ltb, List, length, get_or, set, ◌∷◌, [], ◌++◌, None, vec_items, Option, Result, sym, refl, subst, arith}
use Rattle.std.proofs.lemmas.Bool.{leb-false, ltb-false, or_parts}
use Rattle.refusals.specs.declared.Refusal.{Refusal}
use Rattle.book_rules.specs.declared.Call.{Call}
use Rattle.book_rules.specs.declared.Call.TheVariants.{Open, Modify, End, Correct, Enter, Strike}
use Rattle.book_rules.specs.declared.Standing.{Standing}
use Rattle.book_rules.specs.Contents.{Setup, Stands}
use Rattle.book_rules.specs.Refusing.{site_of, OneMore, Applies, Rules}
use Rattle.book_rules.specs.Telling.{Acts, Step, Told, after}
use Rattle.book_rules.specs.Tests.{first, tests, standing, standing_by, not_served}
use Rattle.book_rules.proofs.Rulings.{rules, sound}
use Rattle.book_rules.proofs.Standings.{stands_by}
use Rattle.book_rules.proofs.Upper.{Failed, failed}
use Rattle.book.specs.declared.site.Site.{Site}
use Rattle.book.specs.declared.store.Book.{Book}
use Rattle.book.specs.Sites.{starting, IsKept, IsKeptAt, Serves}
use Rattle.book.specs.Books.{no_site, setup, held, contents, answered, Made}
use Rattle.book.proofs.Acting.{OneIndexMore, situations_after, indexes_after, acted}
use Rattle.book.proofs.Storage.{past, within, read}

pub by_tests : (b : Book) (c : Call) (o : Option ℕ) → o ≡ first (tests 36 (setup b) (contents b) c) → Rules (setup b) (contents b) c o
by_tests b c o e = subst (Rules (setup b) (contents b) c) (sym e) (rules 36 (setup b) (contents b) (within (vec_items b.sites) b.situations.taken b.indexes.taken) c)

-- a call that was answered so, and the step that it made
pub made : {X : Type 0} (b a : Book) (c : Call) (r : Result X Refusal) → setup a ≡ setup b → Step (setup b) (contents b) c (answered r) (contents a) → Made b c r a
made b a c r same step = record {
  same = same;
  step = step;
  told = λ h t. subst (λ (u : Setup). Told u (h ++ c ∷ []) (contents a)) (sym same) (after h c (answered r) (contents b) (contents a) t step);
}

-- how a site stands, as the book holds it
pub stands : (b : Book) (s : ℕ) (z : Standing) → z ≡ standing 36 (contents b) s → Stands ((contents b).situation s) z
stands b s z e = subst (Stands ((contents b).situation s)) (sym e) (stands_by ((contents b).situation s) 36 (past (get_or (vec_items b.sites) s no_site).situations))

-- a call that is not refused: its site is known, what it puts is kept, and a place is free for one more
pub record Allowed (b : Book) (c : Call) : Type 0 where
  pub known : site_of c < length (vec_items b.sites)
  pub kept : IsKept c
  pub served : not_served (standing 36 (contents b) (site_of c)) c ≡ false
  pub situation_free : OneMore c → b.situations.taken < b.situations.most
  pub index_free : OneIndexMore c → b.indexes.taken < b.indexes.most
  pub none : (k : ℕ) → Applies (setup b) (contents b) c k → ⊥

-- the test of that number
abbrev test_of : ℕ → List (ℕ × Bool) → Bool
test_of k [] = false
test_of k (x ∷ xs) = cond (eqb k x.0) x.1 (test_of k xs)

-- of a call that is not refused every test fails
fails : (k : ℕ) (xs : List (ℕ × Bool)) → Failed xs → test_of k xs ≡ false
fails k [] f = refl
fails k (x ∷ xs) f = let rest = fails k xs f.1 in grind arith

module _ (b : Book) where
  failed_test : (c : Call) → Rules (setup b) (contents b) c None → (k : ℕ) → test_of k (tests 36 (setup b) (contents b) c) ≡ false
  failed_test c r k = fails k (tests 36 (setup b) (contents b) c) (failed (Applies (setup b) (contents b) c) (tests 36 (setup b) (contents b) c) (sound 36 (setup b) (contents b) (within (vec_items b.sites) b.situations.taken b.indexes.taken) c) r)

  dial_kept : (k d : ℕ) → (ltb k 1 || ltb 2 k) ≡ false → ltb b.days d ≡ false → IsKeptAt k d
  dial_kept k d e h = let o = or_parts (ltb k 1) (ltb 2 k) e in record { least = ltb-false _ _ o.0; most = ltb-false _ _ o.1; day = omega (arith, b.horizon, ltb-false _ _ h) }

  pub allowed : (c : Call) → Rules (setup b) (contents b) c None → Allowed b c
  allowed (Open s d t) r = let f = failed_test (Open s d t) r in record { known = omega (arith, leb-false _ _ (f 3)); kept = omega (arith, b.horizon, leb-false _ _ (f 5)); served = f 8; situation_free = λ o. leb-false _ _ (f 11); index_free = λ o. absurd o; none = r }
  allowed (Modify s d t) r = let f = failed_test (Modify s d t) r in record { known = omega (arith, leb-false _ _ (f 3)); kept = omega (arith, b.horizon, leb-false _ _ (f 5)); served = f 8; situation_free = λ o. leb-false _ _ (f 11); index_free = λ o. absurd o; none = r }
  allowed (End s d) r = let f = failed_test (End s d) r in record { known = omega (arith, leb-false _ _ (f 3)); kept = tt; served = f 8; situation_free = λ o. absurd o; index_free = λ o. absurd o; none = r }
  allowed (Correct s d t) r = let f = failed_test (Correct s d t) r in record { known = omega (arith, leb-false _ _ (f 3)); kept = tt; served = f 8; situation_free = λ o. absurd o; index_free = λ o. absurd o; none = r }
  allowed (Enter s k d v) r = let f = failed_test (Enter s k d v) r in record { known = omega (arith, leb-false _ _ (f 3)); kept = dial_kept k d (f 12) (f 5); served = f 8; situation_free = λ o. absurd o; index_free = λ o. leb-false _ _ (f 16); none = r }
  allowed (Strike s k d) r = let f = failed_test (Strike s k d) r in record { known = omega (arith, leb-false _ _ (f 3)); kept = dial_kept k d (f 12) (f 5); served = f 8; situation_free = λ o. absurd o; index_free = λ o. absurd o; none = r }

module _ (b : Book) (c : Call) (s : ℕ) (x : Site) (a : Allowed b c) (e : s ≡ site_of c) (v : x ≡ get_or (vec_items b.sites) s x) where
  -- the site that is called for
  called : x ≡ get_or (vec_items b.sites) (site_of c) no_site
  called = let lt : s < length (vec_items b.sites) = omega (arith, a.known, e) in rw e at (read (vec_items b.sites) s x lt v)

  pub served : not_served (standing_by (starting x) 36) c ≡ false
  served = subst (λ (w : Site). not_served (standing_by (starting w) 36) c ≡ false) (sym called) a.served

  -- the site has served the call, and the places are counted
  pub acting : (i j : ℕ) (y : Site) → Serves x y c → i ≡ situations_after c b.situations.taken → j ≡ indexes_after c b.indexes.taken → Acts (contents b) (held (set (vec_items b.sites) s y) i j) c
  acting i j y h p q = acted (setup b) (vec_items b.sites) b.situations.taken b.indexes.taken x y c s i j e p q a.known called a.none h
