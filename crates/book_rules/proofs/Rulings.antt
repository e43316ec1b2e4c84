-- The first test that holds is the upper number that applies, for every call. Assumes nothing.
use Rattle.std.proofs.Common.{◌≡◌, ℕ, zero, suc, ◌<◌, Bool, true, false, cond, not, ◌&&◌, ◌||◌, eqb, ◌⊎◌, is_ok, Some, None, Ok, Err, Option, sym, refl, subst, inl, inr, ⊎_elim, arith}
use Rattle.std.proofs.lemmas.Bool.{or_cases, or_left, false≢true, not-true}
use Rattle.std.proofs.lemmas.Bool.Decides.{nat_tests}
use Rattle.refusals.specs.declared.Refusal.{Refusal}
use Rattle.refusals.specs.declared.Refusal.TheVariants.{NoSuchProfile}
use Rattle.profiles.specs.declared.Profile.TheVariants.{Res1, Res11, Res1We, Res11We, Res2}
use Rattle.profiles.specs.Table.{between, profile_of}
use Rattle.book_rules.specs.declared.Index.{Index}
use Rattle.book_rules.specs.declared.Standing.{Standing}
use Rattle.book_rules.specs.declared.Standing.TheVariants.{Never, Running, Ended}
use Rattle.book_rules.specs.declared.Call.{Call}
use Rattle.book_rules.specs.declared.Call.TheVariants.{Enter}
use Rattle.book_rules.specs.Contents.{Setup, Contents, Stands}
use Rattle.book_rules.specs.Refusing.{Applies, no_site, no_party, no_day, no_profile, open_running, modify_never, modify_ended, end_never, open_early, modify_early, end_early, end_again_early, end_again_late, correct_none, situations_full, no_dial, enter_large, enter_again, enter_below, enter_above, indexes_full, strike_none, OfTerms, Rules, site_of}
use Rattle.book_rules.specs.Tests.{first, against, crossed, standing, of_terms, of_enter, tests}
use Rattle.book_rules.specs.Laws.{Within}
use Rattle.book_rules.proofs.Upper.{tested, upper, Sound}
use Rattle.book_rules.proofs.Standings.{stands_once, stands_by}

-- a profile is had, or refused for that reason
err_of : {X : Type 0} (a b c d e : Bool) (p q r s t : X) (f : Refusal)
    → is_ok (cond a (Ok p) (cond b (Ok q) (cond c (Ok r) (cond d (Ok s) (cond e (Ok t) (Err f)))))) ≡ false
    → cond a (Ok p) (cond b (Ok q) (cond c (Ok r) (cond d (Ok s) (cond e (Ok t) (Err f))))) ≡ Err f
err_of true b c d e p q r s t f h = absurd (false≢true (sym h))
err_of false true c d e p q r s t f h = absurd (false≢true (sym h))
err_of false false true d e p q r s t f h = absurd (false≢true (sym h))
err_of false false false true e p q r s t f h = absurd (false≢true (sym h))
err_of false false false false true p q r s t f h = absurd (false≢true (sym h))
err_of false false false false false p q r s t f h = refl

pub unprofiled : (class kva : ℕ) → not (is_ok (profile_of class kva)) ≡ true → profile_of class kva ≡ Err NoSuchProfile
unprofiled class kva h =
    err_of (eqb class 1 && between 1 kva 6) (eqb class 1 && between 7 kva 36) (eqb class 2 && between 1 kva 6) (eqb class 2 && between 7 kva 36) (eqb class 3 && between 1 kva 36)
    Res1 Res11 Res1We Res11We Res2 NoSuchProfile (not-true (is_ok (profile_of class kva)) h)

-- what contradicts a value
pub record Against (o : Option Index) (d v e : ℕ) : Type 0 where
  pub index : Index
  pub stands : o ≡ Some index
  pub how : ((e < d) × (v < index.value)) ⊎ ((d < e) × (index.value < v))

against_yes : (d v e : ℕ) (o : Option Index) → against d v e o ≡ true → Against o d v e
against_yes d v e None h = absurd (cc)
against_yes d v e (Some x) h = record { index = x; stands = refl; how = grind (arith, nat_tests) }

against_from : (d v e : ℕ) (o : Option Index) → Against o d v e → against d v e o ≡ true
against_from d v e o a = grind (arith, nat_tests)

crossed_yes : (f : ℕ → Option Index) (d v n : ℕ) → crossed f d v n ≡ true → (e : ℕ) × Against (f e) d v e
unfolding crossed
crossed_yes f d v zero h = absurd (cc)
crossed_yes f d v (suc e) h =
    ⊎_elim {C = (z : ℕ) × Against (f z) d v z} (λ (k : crossed f d v e ≡ true). crossed_yes f d v e k) (λ (k : against d v e (f e) ≡ true). (e, against_yes d v e (f e) k)) (or_cases (crossed f d v e) (against d v e (f e)) h)

crossed_from : (f : ℕ → Option Index) (d v n e : ℕ) → e < n → Against (f e) d v e → crossed f d v n ≡ true
unfolding crossed
crossed_from f d v zero e lt a = absurd (omega arith)
crossed_from f d v (suc n) e lt a = let less = λ (l : e < n). crossed_from f d v n e l a in let same = against_from d v e (f e) a in grind arith

module _ (n : ℕ) (u : Setup) (m : Contents) (w : Within n m) where
  how : (s : ℕ) → Stands (m.situation s) (standing n m s)
  how s = stands_by (m.situation s) n (w.situations s)

  is : (s : ℕ) (z : Standing) → Stands (m.situation s) z → z ≡ standing n m s
  is s z h = stands_once (m.situation s) z (standing n m s) h (how s)

  at : (s : ℕ) (z : Standing) → standing n m s ≡ z → Stands (m.situation s) z
  at s z e = subst (Stands (m.situation s)) e (how s)

  crosses : (s k d v : ℕ) → crossed (m.index s k) d v n ≡ true → Applies u m (Enter s k d v) 15
  crosses s k d v t = let a = crossed_yes (m.index s k) d v n t in by a.0 a.1 a.1.how
    where
      by : (e : ℕ) (a : Against (m.index s k e) d v e) → ((e < d) × (v < a.index.value)) ⊎ ((d < e) × (a.index.value < v)) → Applies u m (Enter s k d v) 15
      by e a (inl h) = enter_below h.0 a.stands h.1
      by e a (inr h) = enter_above h.0 a.stands h.1

  crossing : (c : Call) → of_enter (λ s k d v. crossed (m.index s k) d v n) c ≡ true → Applies u m c 15
  crossing c h = grind (arith, crosses)

  profile : (c : Call) → of_terms (λ t. not (is_ok (profile_of t.class t.power))) c ≡ true → OfTerms (λ t. profile_of t.class t.power ≡ Err NoSuchProfile) c
  profile c h = grind (arith, unprofiled)

  -- where a test holds its number applies
  pub sound : (c : Call) → Sound (Applies u m c) (tests n u m c)
  sound c = let a = how (site_of c) in (
    (λ h. grind (arith, nat_tests, no_site)),
    (
      (λ h. grind (arith, nat_tests, no_party)),
      (
        (λ h. grind (arith, nat_tests, no_day)),
        (
          (λ h. no_profile (profile c h)),
          (
            (λ h. grind (arith, open_running)),
            (
              (λ h. grind (arith, modify_never, modify_ended, end_never)),
              (
                (λ h. grind (arith, nat_tests, open_early, modify_early, end_early, end_again_early, end_again_late)),
                (
                  (λ h. grind (arith, correct_none)),
                  (
                    (λ h. grind (arith, nat_tests, situations_full)),
                    (
                      (λ h. grind (arith, nat_tests, no_dial)),
                      (
                        (λ h. grind (arith, nat_tests, enter_large)),
                        (
                          (λ h. grind (arith, enter_again)),
                          (
                            (λ h. crossing c h),
                            (
                              (λ h. grind (arith, nat_tests, indexes_full)),
                              ((λ h. grind (arith, strike_none)), tt),
                            ),
                          ),
                        ),
                      ),
                    ),
                  ),
                ),
              ),
            ),
          ),
        ),
      ),
    ),
  )

  yes : (b : Bool) → b ≡ true → (b || false) ≡ true
  yes b h = or_left b false h

  found : (s k d v e : ℕ) → Against (m.index s k e) d v e → crossed (m.index s k) d v n ≡ true
  found s k d v e a = let near = λ (l : e < n). crossed_from (m.index s k) d v n e l a in let far = w.indexes s k e in let is = a.stands in grind arith

  -- where a number applies its test holds
  pub complete : (c : Call) (j : ℕ) → Applies u m c j → tested j (tests n u m c) ≡ true
  complete c j (no_site h) = yes _ (grind (arith, nat_tests))
  complete c j (no_party h) = yes _ (grind (arith, nat_tests))
  complete c j (no_day h) = yes _ (grind (arith, nat_tests))
  complete c j (no_profile h) = yes _ (grind (arith, nat_tests))
  complete c j (open_running {s} {b} h) = let e = is s (Running b) h in yes _ (grind (arith, nat_tests))
  complete c j (modify_never {s} h) = let e = is s Never h in yes _ (grind (arith, nat_tests))
  complete c j (modify_ended {s} {b} {e} h) = let i = is s (Ended b e) h in yes _ (grind (arith, nat_tests))
  complete c j (end_never {s} h) = let e = is s Never h in yes _ (grind (arith, nat_tests))
  complete c j (open_early {s} {b} {e} h l) = let i = is s (Ended b e) h in yes _ (grind (arith, nat_tests))
  complete c j (modify_early {s} {b} h l) = let e = is s (Running b) h in yes _ (grind (arith, nat_tests))
  complete c j (end_early {s} {b} h l) = let e = is s (Running b) h in yes _ (grind (arith, nat_tests))
  complete c j (end_again_early {s} {b} {e} h l) = let i = is s (Ended b e) h in yes _ (grind (arith, nat_tests))
  complete c j (end_again_late {s} {b} {e} h l) = let i = is s (Ended b e) h in yes _ (grind (arith, nat_tests))
  complete c j (correct_none h) = yes _ (grind (arith, nat_tests))
  complete c j (situations_full o h) = yes _ (grind (arith, nat_tests))
  complete c j (no_dial h) = yes _ (grind (arith, nat_tests))
  complete c j (enter_large h) = yes _ (grind (arith, nat_tests))
  complete c j (enter_again h) = yes _ (grind (arith, nat_tests))
  complete c j (enter_below {s} {k} {d} {v} {e} {x} l h q) = yes _ (found s k d v e (record { index = x; stands = h; how = inl (l, q) }))
  complete c j (enter_above {s} {k} {d} {v} {e} {x} l h q) = yes _ (found s k d v e (record { index = x; stands = h; how = inr (l, q) }))
  complete c j (indexes_full h) = yes _ (grind (arith, nat_tests))
  complete c j (strike_none h) = yes _ (grind (arith, nat_tests))

  pub rules : (c : Call) → Rules u m c (first (tests n u m c))
  rules c = upper (Applies u m c) 0 (tests n u m c) refl (sound c) (complete c)
