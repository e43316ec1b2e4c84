-- Lists of dials without repeats. Assumes nothing.
use Rattle.std.proofs.Common.{◌≡◌, ℕ, ◌+◌, ◌<◌, ◌≤◌, ◌⊎◌, List, [], ◌∷◌, ◌++◌, length, sym, refl, ap, ◌∙◌, subst, inl, inr, ⊎_elim, arith}
use Rattle.sheet_rules.specs.Dials.{Among, WithoutRepeats}

abbrev pub Dials : Type 0
Dials = List (ℕ × ℕ)

-- a list with one of its members taken out
pub record Split (d : ℕ × ℕ) (ds : Dials) : Type 0 where
  pub front : Dials
  pub back : Dials
  pub is : ds ≡ front ++ d ∷ back

pub split : (d : ℕ × ℕ) (ds : Dials) → Among d ds → Split d ds
split d [] h = absurd h
split d (e ∷ es) h =
    ⊎_elim {C = Split d (e ∷ es)}
    (λ (same : d ≡ e). record { front = []; back = es; is = ap (λ (z : ℕ × ℕ). z ∷ es) (sym same) })
    (λ (m : Among d es). let s = split d es m in record { front = e ∷ s.front; back = s.back; is = ap (λ (zs : Dials). e ∷ zs) s.is })
    h

pub among_in : (z d : ℕ × ℕ) (front back : Dials) → Among z (front ++ d ∷ back) → (z ≡ d) ⊎ Among z (front ++ back)
among_in z d [] back h = h
among_in z d (e ∷ es) back h =
    ⊎_elim {C = (z ≡ d) ⊎ ((z ≡ e) ⊎ Among z (es ++ back))}
    (λ (same : z ≡ e). inr (inl same))
    (λ (m : Among z (es ++ d ∷ back)). ⊎_elim {C = (z ≡ d) ⊎ ((z ≡ e) ⊎ Among z (es ++ back))} (λ (q : z ≡ d). inl q) (λ (q : Among z (es ++ back)). inr (inr q)) (among_in z d es back m))
    h

pub among_rest : (z d : ℕ × ℕ) (front back : Dials) → Among z (front ++ back) → Among z (front ++ d ∷ back)
among_rest z d [] back h = inr h
among_rest z d (e ∷ es) back h =
    ⊎_elim {C = (z ≡ e) ⊎ Among z (es ++ d ∷ back)} (λ (same : z ≡ e). inl same) (λ (m : Among z (es ++ back)). inr (among_rest z d es back m)) h

pub among_here : (d : ℕ × ℕ) (front back : Dials) → Among d (front ++ d ∷ back)
among_here d [] back = inl refl
among_here d (e ∷ es) back = inr (among_here d es back)

pub apart_rest : (d : ℕ × ℕ) (front back : Dials) → WithoutRepeats (front ++ d ∷ back) → WithoutRepeats (front ++ back)
apart_rest d [] back h = h.1
apart_rest d (e ∷ es) back h = ((λ m. h.0 (among_rest e d es back m)), apart_rest d es back h.1)

pub apart_one : (d : ℕ × ℕ) (front back : Dials) → WithoutRepeats (front ++ d ∷ back) → Among d (front ++ back) → ⊥
apart_one d [] back h m = h.0 m
apart_one d (e ∷ es) back h m =
    ⊎_elim {C = ⊥}
    (λ (same : d ≡ e). h.0 (subst (λ (z : ℕ × ℕ). Among z (es ++ d ∷ back)) same (among_here d es back)))
    (λ (k : Among d (es ++ back)). apart_one d es back h.1 k)
    m

pub length_rest : (d : ℕ × ℕ) (front back : Dials) → length (front ++ d ∷ back) ≡ length (front ++ back) + 1
length_rest d [] back = omega arith
length_rest d (e ∷ es) back = omega (arith, length_rest d es back)

-- the members of one are those of the other
pub record SameMembers (ds es : Dials) : Type 0 where
  pub onward : (z : ℕ × ℕ) → Among z ds → Among z es
  pub backward : (z : ℕ × ℕ) → Among z es → Among z ds

-- without the first of the one, and that one taken out of the other
pub same_rest : (d : ℕ × ℕ) (rest front back : Dials) → WithoutRepeats (d ∷ rest) → WithoutRepeats (front ++ d ∷ back) → SameMembers (front ++ d ∷ back) (d ∷ rest) → SameMembers (front ++ back) rest
same_rest d rest front back one other same = record {
  onward = λ z m.
      ⊎_elim {C = Among z rest} (λ (q : z ≡ d). absurd (apart_one d front back other (subst (λ (y : ℕ × ℕ). Among y (front ++ back)) q m))) (λ (q : Among z rest). q) (same.onward z (among_rest z d front back m));
  backward = λ z m.
      ⊎_elim {C = Among z (front ++ back)} (λ (q : z ≡ d). absurd (one.0 (subst (λ (y : ℕ × ℕ). Among y rest) q m))) (λ (q : Among z (front ++ back)). q) (among_in z d front back (same.backward z (inr m)));
}

pub no_members : (ds : Dials) → SameMembers ds [] → ds ≡ []
no_members [] same = refl
no_members (d ∷ ds) same = absurd (same.onward d (inl refl))

pub same_length : (es ds : Dials) → WithoutRepeats es → WithoutRepeats ds → SameMembers ds es → length ds ≡ length es
same_length [] ds one other same = ap length (no_members ds same)
same_length (e ∷ es) ds one other same =
    let s = split e ds (same.backward e (inl refl)) in
    let other' : WithoutRepeats (s.front ++ e ∷ s.back) = subst WithoutRepeats s.is other in
    let same' : SameMembers (s.front ++ e ∷ s.back) (e ∷ es) = subst (λ (zs : Dials). SameMembers zs (e ∷ es)) s.is same in
    let rest = same_length es (s.front ++ s.back) one.1 (apart_rest e s.front s.back other') (same_rest e es s.front s.back one other' same') in
    omega (arith, ap length s.is, length_rest e s.front s.back)
