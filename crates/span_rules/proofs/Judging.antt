-- Every span has one first anomaly or none. Assumes nothing.
use Rattle.std.proofs.Common.{◌≡◌, ℕ, zero, suc, ◌+◌, ◌<◌, ◌≤◌, Bool, true, false, ◌⊎◌, Some, None, Decides, Option, sym, refl, ap, ◌∙◌, subst, inl, inr, ⊎_elim, arith}
use Rattle.std.proofs.lemmas.Bool.{cases_lt, cases_eq, cases_order, cases_Bool, both_ways}
use Rattle.factors.specs.Extremes.{extreme, Extreme}
use Rattle.factors.proofs.Signs.{test_tells}
use Rattle.book_rules.specs.declared.Situation.{Situation}
use Rattle.book_rules.specs.Refusing.{Upper}
use Rattle.span_rules.specs.Days.{Metering, serving, sub_profile_under, own_sum}
use Rattle.span_rules.specs.Anomalies.{Holds, no_situation, several, no_dial, zero_weight, extreme_factor, FirstAnomaly}
use Rattle.span_rules.specs.Laws.{OneJudgement}

-- it holds or it does not
abbrev Either : Type 0 → Type 0
Either P = P ⊎ (P → ⊥)

-- on some of the days a to b - 1, or on none
abbrev SomeDay : (ℕ → Type 0) → ℕ → ℕ → Type 0
SomeDay Q a b = (d : ℕ) × (a ≤ d) × (d < b) × Q d

some_day : (Q : ℕ → Type 0) → ((d : ℕ) → Either (Q d)) → (a b : ℕ) → Either (SomeDay Q a b)
some_day Q each a zero = inr (λ h. omega (arith, h.2))
some_day Q each a (suc b) =
    ⊎_elim {C = Either (SomeDay Q a (suc b))}
    (λ (h : SomeDay Q a b). inl (h.0, h.1, omega (arith, h.2), h.3))
    (λ (n : SomeDay Q a b → ⊥).
    ⊎_elim {C = Either (SomeDay Q a (suc b))}
    (λ (le : a ≤ b). ⊎_elim {C = Either (SomeDay Q a (suc b))} (λ (q : Q b). inl (b, le, omega arith, q)) (λ (q : Q b → ⊥). inr (λ h. at_last n q h)) (each b))
    (λ (lt : b < a). inr (λ h. at_last n (λ q. absurd (omega (arith, h.1, h.2))) h))
    (swap (cases_lt b a)))
    (some_day Q each a b)
  where
    swap : (b < a) ⊎ (a ≤ b) → (a ≤ b) ⊎ (b < a)
    swap h = ⊎_elim {C = (a ≤ b) ⊎ (b < a)} (λ (p : b < a). inr p) (λ (p : a ≤ b). inl p) h

    at_last : (SomeDay Q a b → ⊥) → (Q b → ⊥) → SomeDay Q a (suc b) → ⊥
    at_last n q h =
        ⊎_elim {C = ⊥}
        (λ (lt : h.0 < b). n (h.0, h.1, lt, h.3))
        (λ (le : b ≤ h.0). let same : h.0 ≡ b = omega (arith, h.2) in q (subst Q same h.3))
        (cases_lt h.0 b)

-- cases of what may not be there
one_of : {X : Type 0} (o : Option X) → (o ≡ None) ⊎ ((x : X) × (o ≡ Some x))
one_of None = inl refl
one_of (Some x) = inr (x, refl)

differ : {X : Type 0} {x : X} (o : Option X) → o ≡ Some x → o ≡ None → ⊥
differ o p q = let z : ◌≡◌ {A = ℕ} 0 1 = cc in omega arith

none_or_not : {X : Type 0} (o : Option X) → Either (o ≡ None)
none_or_not None = inl refl
none_or_not (Some x) = inr (differ (Some x) refl)

-- something of the value, where there is one
abbrev Of : {X : Type 0} → (X → Type 0) → Option X → Type 0
Of {X} P o = (x : X) × (o ≡ Some x) × P x

of_or_not : {X : Type 0} (P : X → Type 0) → ((x : X) → Either (P x)) → (o : Option X) → Either (Of P o)
of_or_not P each None = inr (λ h. differ None h.1 refl)
of_or_not {X} P each (Some x) =
    ⊎_elim {C = Either (Of P (Some x))}
    (λ (p : P x). inl (x, refl, p))
    (λ (n : P x → ⊥). inr (λ h. let same : h.0 ≡ x = cc h.1 in n (subst P same h.2)))
    (each x)

not_or_not : {P : Type 0} → Either P → Either (P → ⊥)
not_or_not {P} h = ⊎_elim {C = Either (P → ⊥)} (λ (p : P). inr (λ n. n p)) (λ (n : P → ⊥). inl n) h

by_test : {P : Type 0} (t : Bool) → Decides t P → Either P
by_test true d = inl (d.0 refl)
by_test false d = inr (λ p. both_ways false refl (d.1 p))

module _ (x : Metering) (a b e : ℕ) where
  abbrev f : ℕ → Option (ℕ × Situation)
  f d = serving x.starting d

  abbrev On : (ℕ × Situation → Type 0) → Type 0
  On P = SomeDay (λ d. Of P (f d)) a b

  one : Either (Holds x a b e 1)
  one =
      ⊎_elim {C = Either (Holds x a b e 1)}
      (λ (h : SomeDay (λ d. f d ≡ None) a b). inl (no_situation h.0 h.1 h.2 h.3))
      (λ (n : SomeDay (λ d. f d ≡ None) a b → ⊥). inr (λ h. n (back h)))
      (some_day (λ d. f d ≡ None) (λ d. none_or_not (f d)) a b)
    where
      back : Holds x a b e 1 → SomeDay (λ d. f d ≡ None) a b
      back (no_situation d p q r) = (d, p, q, r)

  abbrev Apart : ℕ × Situation → Type 0
  Apart v = On (λ w. v.0 ≡ w.0 → ⊥)

  two : Either (Holds x a b e 2)
  two =
      ⊎_elim {C = Either (Holds x a b e 2)}
      (λ (h : On Apart). let g = h.3.2 in inl (several h.0 g.0 h.3.0.0 g.3.0.0 h.3.0.1 g.3.0.1 h.1 h.2 g.1 g.2 h.3.1 g.3.1 g.3.2))
      (λ (n : On Apart → ⊥). inr (λ h. n (back h)))
      (some_day (λ c. Of Apart (f c)) (λ c. of_or_not Apart (λ v. some_day (λ d. Of (λ w. v.0 ≡ w.0 → ⊥) (f d)) (λ d. of_or_not (λ w. v.0 ≡ w.0 → ⊥) (λ w. not_or_not (cases_eq v.0 w.0)) (f d)) a b) (f c)) a b)
    where
      back : Holds x a b e 2 → On Apart
      back (several c d p q y z ac cb ad db sc sd ne) = (c, ac, cb, ((p, y), sc, (d, ad, db, ((q, z), sd, ne))))

  abbrev Lacks : ℕ × Situation → Type 0
  Lacks v = sub_profile_under v.1.terms x.dial ≡ None

  three : Either (Holds x a b e 3)
  three =
      ⊎_elim {C = Either (Holds x a b e 3)}
      (λ (h : On Lacks). inl (no_dial h.0 h.3.0.0 h.3.0.1 h.1 h.2 h.3.1 h.3.2))
      (λ (n : On Lacks → ⊥). inr (λ h. n (back h)))
      (some_day (λ d. Of Lacks (f d)) (λ d. of_or_not Lacks (λ v. none_or_not (sub_profile_under v.1.terms x.dial)) (f d)) a b)
    where
      back : Holds x a b e 3 → On Lacks
      back (no_dial d c y ad db s l) = (d, ad, db, ((c, y), s, l))

  four : Either (Holds x a b e 4)
  four =
      ⊎_elim {C = Either (Holds x a b e 4)}
      (λ (h : own_sum x a b ≡ 0). inl (zero_weight h))
      (λ (n : own_sum x a b ≡ 0 → ⊥). inr (λ h. n (back h)))
      (cases_eq (own_sum x a b) 0)
    where
      back : Holds x a b e 4 → own_sum x a b ≡ 0
      back (zero_weight h) = h

  abbrev Exceeds : ℕ × Situation → ℕ → Type 0
  Exceeds v p = Extreme x.k (x.theta p) v.1.terms.power e (own_sum x a b)

  abbrev Beyond : ℕ × Situation → Type 0
  Beyond v = Of (Exceeds v) (sub_profile_under v.1.terms x.dial)

  five : Either (Holds x a b e 5)
  five =
      ⊎_elim {C = Either (Holds x a b e 5)}
      (λ (h : On Beyond). let g = h.3.2 in inl (extreme_factor h.0 h.3.0.0 g.0 h.3.0.1 h.1 h.2 h.3.1 g.1 g.2))
      (λ (n : On Beyond → ⊥). inr (λ h. n (back h)))
      (some_day (λ d. Of Beyond (f d)) (λ d. of_or_not Beyond (λ v. of_or_not (Exceeds v) (λ p. by_test _ (test_tells x.k (x.theta p) v.1.terms.power e (own_sum x a b))) (sub_profile_under v.1.terms x.dial)) (f d)) a b)
    where
      back : Holds x a b e 5 → On Beyond
      back (extreme_factor d c p y ad db s u g) = (d, ad, db, ((c, y), s, (p, u, g)))

  -- none below a number, each being ruled out
  pub none_below : (k : ℕ) → (1 < k → Holds x a b e 1 → ⊥) → (2 < k → Holds x a b e 2 → ⊥) → (3 < k → Holds x a b e 3 → ⊥) → (4 < k → Holds x a b e 4 → ⊥) → (5 < k → Holds x a b e 5 → ⊥) → (j : ℕ) → j < k → Holds x a b e j → ⊥
  none_below k n1 n2 n3 n4 n5 j lt (no_situation d p q r) = n1 lt (no_situation d p q r)
  none_below k n1 n2 n3 n4 n5 j lt (several c d p q y z ac cb ad db sc sd ne) = n2 lt (several c d p q y z ac cb ad db sc sd ne)
  none_below k n1 n2 n3 n4 n5 j lt (no_dial d c y ad db s l) = n3 lt (no_dial d c y ad db s l)
  none_below k n1 n2 n3 n4 n5 j lt (zero_weight h) = n4 lt (zero_weight h)
  none_below k n1 n2 n3 n4 n5 j lt (extreme_factor d c p y ad db s u g) = n5 lt (extreme_factor d c p y ad db s u g)

  pub first_1 : Holds x a b e 1 → FirstAnomaly x a b e (Some 1)
  first_1 h = (h, none_below 1 (λ lt. absurd (omega arith)) (λ lt. absurd (omega arith)) (λ lt. absurd (omega arith)) (λ lt. absurd (omega arith)) (λ lt. absurd (omega arith)))

  pub first_2 : (Holds x a b e 1 → ⊥) → Holds x a b e 2 → FirstAnomaly x a b e (Some 2)
  first_2 n1 h = (h, none_below 2 (λ _. n1) (λ lt. absurd (omega arith)) (λ lt. absurd (omega arith)) (λ lt. absurd (omega arith)) (λ lt. absurd (omega arith)))

  pub first_3 : (Holds x a b e 1 → ⊥) → (Holds x a b e 2 → ⊥) → Holds x a b e 3 → FirstAnomaly x a b e (Some 3)
  first_3 n1 n2 h = (h, none_below 3 (λ _. n1) (λ _. n2) (λ lt. absurd (omega arith)) (λ lt. absurd (omega arith)) (λ lt. absurd (omega arith)))

  pub first_4 : (Holds x a b e 1 → ⊥) → (Holds x a b e 2 → ⊥) → (Holds x a b e 3 → ⊥) → Holds x a b e 4 → FirstAnomaly x a b e (Some 4)
  first_4 n1 n2 n3 h = (h, none_below 4 (λ _. n1) (λ _. n2) (λ _. n3) (λ lt. absurd (omega arith)) (λ lt. absurd (omega arith)))

  pub first_5 : (Holds x a b e 1 → ⊥) → (Holds x a b e 2 → ⊥) → (Holds x a b e 3 → ⊥) → (Holds x a b e 4 → ⊥) → Holds x a b e 5 → FirstAnomaly x a b e (Some 5)
  first_5 n1 n2 n3 n4 h = (h, none_below 5 (λ _. n1) (λ _. n2) (λ _. n3) (λ _. n4) (λ lt. absurd (omega arith)))

  pub no_anomaly : (Holds x a b e 1 → ⊥) → (Holds x a b e 2 → ⊥) → (Holds x a b e 3 → ⊥) → (Holds x a b e 4 → ⊥) → (Holds x a b e 5 → ⊥) → FirstAnomaly x a b e None
  no_anomaly n1 n2 n3 n4 n5 j h = none_below (j + 1) (λ _. n1) (λ _. n2) (λ _. n3) (λ _. n4) (λ _. n5) j (omega arith) h

  abbrev Found : Type 0
  Found = (n : Option ℕ) × FirstAnomaly x a b e n

  found : Found
  found =
      ⊎_elim {C = Found} (λ (h : Holds x a b e 1). (Some 1, first_1 h))
      (λ (n1 : Holds x a b e 1 → ⊥). ⊎_elim {C = Found} (λ (h : Holds x a b e 2). (Some 2, first_2 n1 h))
      (λ (n2 : Holds x a b e 2 → ⊥). ⊎_elim {C = Found} (λ (h : Holds x a b e 3). (Some 3, first_3 n1 n2 h))
      (λ (n3 : Holds x a b e 3 → ⊥). ⊎_elim {C = Found} (λ (h : Holds x a b e 4). (Some 4, first_4 n1 n2 n3 h))
      (λ (n4 : Holds x a b e 4 → ⊥). ⊎_elim {C = Found} (λ (h : Holds x a b e 5). (Some 5, first_5 n1 n2 n3 n4 h))
      (λ (n5 : Holds x a b e 5 → ⊥). (None, no_anomaly n1 n2 n3 n4 n5)) five) four) three) two) one

-- the upper number that applies is one
pub upper_once : (A : ℕ → Type 0) (m n : Option ℕ) → Upper A m → Upper A n → m ≡ n
upper_once A None None p q = refl
upper_once A None (Some k) p q = absurd (p k q.0)
upper_once A (Some j) None p q = absurd (q j p.0)
upper_once A (Some j) (Some k) p q =
    ⊎_elim {C = Some j ≡ Some k}
    (λ (e : j ≡ k). ap Some e)
    (λ (h : (j < k) ⊎ (k < j)). ⊎_elim {C = Some j ≡ Some k} (λ (lt : j < k). absurd (q.1 j lt p.0)) (λ (lt : k < j). absurd (p.1 k lt q.0)) h)
    (cases_order j k)

pub one_judgement : OneJudgement
one_judgement = record { some = found; once = λ x a b e m n p q. upper_once (Holds x a b e) m n p q }
