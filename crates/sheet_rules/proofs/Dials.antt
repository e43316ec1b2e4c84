-- The dials of a book one after another, and what their pieces make of a cell. Assumes nothing.
use Rattle.std.proofs.Common.{◌≡◌, ℕ, zero, suc, ◌+◌, ◌-◌, ◌*◌, ◌/◌, ◌%◌, ◌^◌, ◌<◌, ◌≤◌, Bool, true, false, cond, eqb, ◌⊎◌, List, [], ◌∷◌, ◌++◌, length, ℤ, pos, ◌+ℤ◌, Some, None, fold, Option, sym, refl, ap, ◌∙◌, subst, inl, inr, ⊎_elim, add-one, arith}
use Rattle.std.proofs.lemmas.Bool.{cases_lt, eqb-true, eq-eqb}
use Rattle.std.proofs.lemmas.List.Sums.{fold_push}
use Rattle.sharing.specs.Shares.{before}
use Rattle.sharing.proofs.Sums.{before_none, before_more}
use Rattle.amounts.specs.Laws.{Joining}
use Rattle.span_rules.specs.Days.{Metering}
use Rattle.span_rules.proofs.Steps.{Tracked}
use Rattle.sheet_rules.specs.Dials.{Among, WithoutRepeats}
use Rattle.sheet_rules.specs.Rows.{InCell}
use Rattle.sheet_rules.specs.Account.{pieces}
use Rattle.sheet_rules.proofs.Lists.{Dials}
use Rattle.sheet_rules.proofs.There.{place, figure_at, placed, is_placed, figure_small}

-- dial j of a book: those of site 0, then of site 1, and so on
abbrev pub dial : ℕ → ℕ × ℕ
dial j = (j / 2, j % 2 + 1)

same_dial : (i j : ℕ) → ◌≡◌ {A = ℕ × ℕ} (dial i) (dial j) → i ≡ j
same_dial i j h = omega (arith, ap (λ (d : ℕ × ℕ). d.0) h, ap (λ (d : ℕ × ℕ). d.1) h)

among_push : (z d : ℕ × ℕ) (ds : Dials) → Among z (ds ++ d ∷ []) → Among z ds ⊎ (z ≡ d)
among_push z d [] h = ⊎_elim {C = ⊥ ⊎ (z ≡ d)} (λ (q : z ≡ d). inr q) (λ (q : ⊥). absurd q) h
among_push z d (e ∷ es) h =
    ⊎_elim {C = ((z ≡ e) ⊎ Among z es) ⊎ (z ≡ d)}
    (λ (q : z ≡ e). inl (inl q))
    (λ (m : Among z (es ++ d ∷ [])). ⊎_elim {C = ((z ≡ e) ⊎ Among z es) ⊎ (z ≡ d)} (λ (q : Among z es). inl (inr q)) (λ (q : z ≡ d). inr q) (among_push z d es m))
    h

push_old : (z d : ℕ × ℕ) (ds : Dials) → Among z ds → Among z (ds ++ d ∷ [])
push_old z d [] h = absurd h
push_old z d (e ∷ es) h = ⊎_elim {C = (z ≡ e) ⊎ Among z (es ++ d ∷ [])} (λ (q : z ≡ e). inl q) (λ (q : Among z es). inr (push_old z d es q)) h

push_new : (d : ℕ × ℕ) (ds : Dials) → Among d (ds ++ d ∷ [])
push_new d [] = inl refl
push_new d (e ∷ es) = inr (push_new d es)

push_apart : (d : ℕ × ℕ) (ds : Dials) → WithoutRepeats ds → (Among d ds → ⊥) → WithoutRepeats (ds ++ d ∷ [])
push_apart d [] h n = ((λ m. m), tt)
push_apart d (e ∷ es) h n = (
  λ m. ⊎_elim {C = ⊥} (λ (q : Among e es). h.0 q) (λ (q : e ≡ d). n (inl (sym q))) (among_push e d es m),
  push_apart d es h.1 (λ m. n (inr m)),
)

push_length : (d : ℕ × ℕ) (ds : Dials) → length (ds ++ d ∷ []) ≡ length ds + 1
push_length d [] = refl
push_length d (e ∷ es) = omega (arith, push_length d es)

-- a dial put on the list of a row's, if its piece stands in that row
abbrev list_with : ℕ → ℕ × ℕ → Option (ℕ × ℕ) → Dials → Dials
list_with r d None ds = ds
list_with r d (Some p) ds = cond (eqb p.0 r) (ds ++ d ∷ []) ds

-- the energy that a place brings to a row
abbrev pub part : ℕ → Option (ℕ × ℕ) → ℕ
part r None = 0
part r (Some p) = cond (eqb p.0 r) p.1 0

module _ (parties days : ℕ) (of : ℕ → ℕ → Metering) (track : (s k : ℕ) → Tracked days (of s k).on) where
  -- the place of dial j at a half-hour, and the figures of dials
  abbrev pub place_of : ℕ → ℕ → Option (ℕ × ℕ)
  place_of j t = place parties days (of (dial j).0 (dial j).1) (track (dial j).0 (dial j).1) t

  abbrev pub figures_of : ℕ → ℕ → ℕ → ℕ
  figures_of s k t = figure_at parties days (of s k) (track s k) t

  -- the first n dials, those that have a piece in the cell
  abbrev pub listed : ℕ → ℕ → ℕ → Dials
  listed r t zero = []
  listed r t (suc j) = list_with r (dial j) (place_of j t) (listed r t j)

  module _ (r t : ℕ) where
    pub record Listed (z : ℕ × ℕ) (n : ℕ) : Type 0 where
      pub number : ℕ
      pub early : number < n
      pub is : z ≡ dial number
      pub there : InCell parties (of z.0 z.1) r t

    one_listed : (j : ℕ) (z : ℕ × ℕ) (ds : Dials) (o : Option (ℕ × ℕ)) → place_of j t ≡ o → (Among z ds → Listed z j) → Among z (list_with r (dial j) o ds) → Listed z (suc j)
    one_listed j z ds None e was h = let l = was h in record { number = l.number; early = omega (arith, l.early); is = l.is; there = l.there }
    one_listed j z ds (Some p) e was h = by (eqb p.0 r) refl h
      where
        by : (b : Bool) → eqb p.0 r ≡ b → Among z (cond b (ds ++ dial j ∷ []) ds) → Listed z (suc j)
        by true q m =
            ⊎_elim {C = Listed z (suc j)}
            (λ (k : Among z ds). let l = was k in record { number = l.number; early = omega (arith, l.early); is = l.is; there = l.there })
            (λ (k : z ≡ dial j).
            let here = (placed parties days (of (dial j).0 (dial j).1) (track (dial j).0 (dial j).1) t p.0 p.1 e).0 in
            record {
              number = j;
              early = omega arith;
              is = k;
              there = subst (λ (d : ℕ × ℕ). InCell parties (of d.0 d.1) r t) (sym k) (subst (λ (i : ℕ). InCell parties (of (dial j).0 (dial j).1) i t) (eqb-true p.0 r q) here);
            })
            (among_push z (dial j) ds m)
        by false q m = let l = was m in record { number = l.number; early = omega (arith, l.early); is = l.is; there = l.there }

    pub listed_are : (n : ℕ) (z : ℕ × ℕ) → Among z (listed r t n) → Listed z n
    listed_are zero z h = absurd h
    listed_are (suc j) z h = one_listed j z (listed r t j) (place_of j t) refl (listed_are j z) h

    kept_on : (j : ℕ) (z : ℕ × ℕ) (ds : Dials) (o : Option (ℕ × ℕ)) → Among z ds → Among z (list_with r (dial j) o ds)
    kept_on j z ds None h = h
    kept_on j z ds (Some p) h = by (eqb p.0 r)
      where
        by : (b : Bool) → Among z (cond b (ds ++ dial j ∷ []) ds)
        by true = push_old z (dial j) ds h
        by false = h

    put_on : (j : ℕ) (ds : Dials) (o : Option (ℕ × ℕ)) (e : ℕ) → o ≡ Some (r, e) → Among (dial j) (list_with r (dial j) o ds)
    put_on j ds None e h = let z : ◌≡◌ {A = ℕ} 0 1 = cc in absurd (omega arith)
    put_on j ds (Some p) e h = by (eqb p.0 r) (eq-eqb p.0 r (ap (λ (v : ℕ × ℕ). v.0) (pair h)))
      where
        pair : {v w : ℕ × ℕ} → Some v ≡ Some w → v ≡ w
        pair k = cc

        by : (b : Bool) → b ≡ true → Among (dial j) (cond b (ds ++ dial j ∷ []) ds)
        by true k = push_new (dial j) ds
        by false k = let z : ◌≡◌ {A = ℕ} 0 1 = cc in absurd (omega arith)

    pub listed_has : (n j : ℕ) → j < n → InCell parties (of (dial j).0 (dial j).1) r t → Among (dial j) (listed r t n)
    listed_has zero j lt h = absurd (omega arith)
    listed_has (suc n) j lt h =
        ⊎_elim {C = Among (dial j) (listed r t (suc n))}
        (λ (k : j < n). kept_on n (dial j) (listed r t n) (place_of n t) (listed_has n j k h))
        (λ (k : n ≤ j).
        let same : j ≡ n = omega arith in
        subst (λ (i : ℕ). Among (dial i) (listed r t (suc n))) (sym same)
        (put_on n (listed r t n) (place_of n t) _ (is_placed parties days (of (dial n).0 (dial n).1) (track (dial n).0 (dial n).1) t r (subst (λ (i : ℕ). InCell parties (of (dial i).0 (dial i).1) r t) same h))))
        (cases_lt j n)

    one_apart : (j : ℕ) (ds : Dials) (o : Option (ℕ × ℕ)) → WithoutRepeats ds → (Among (dial j) ds → ⊥) → WithoutRepeats (list_with r (dial j) o ds)
    one_apart j ds None h n = h
    one_apart j ds (Some p) h n = by (eqb p.0 r)
      where
        by : (b : Bool) → WithoutRepeats (cond b (ds ++ dial j ∷ []) ds)
        by true = push_apart (dial j) ds h n
        by false = h

    pub listed_once : (n : ℕ) → WithoutRepeats (listed r t n)
    listed_once zero = tt
    listed_once (suc j) = one_apart j (listed r t j) (place_of j t) (listed_once j) (λ m. let l = listed_are j (dial j) m in omega (arith, l.early, same_dial j l.number l.is))

    one_length : (j n : ℕ) (ds : Dials) (o : Option (ℕ × ℕ)) → length ds ≤ n → length (list_with r (dial j) o ds) ≤ suc n
    one_length j n ds None h = omega arith
    one_length j n ds (Some p) h = by (eqb p.0 r)
      where
        by : (b : Bool) → length (cond b (ds ++ dial j ∷ []) ds) ≤ suc n
        by true = omega (arith, push_length (dial j) ds)
        by false = omega arith

    pub listed_few : (n : ℕ) → length (listed r t n) ≤ n
    listed_few zero = omega arith
    listed_few (suc j) = one_length j j (listed r t j) (place_of j t) (listed_few j)

  -- what a cell comes to hold
  module _ {X : Type 0} {nil : X} {piece : ℕ → ℕ → X} {joined : X → X → X} {energy : X → ℤ} {size : X → ℕ} (laws : Joining nil piece joined energy size) where
    -- a place's piece joined to a cell of its row
    abbrev pub add : ℕ → ℕ → Option (ℕ × ℕ) → X → X
    add r k None x = x
    add r k (Some p) x = cond (eqb p.0 r) (joined x (piece p.1 k)) x

    -- the pieces of the first n dials joined, one after another
    unfoldable pub added : ℕ → ℕ → ℕ → X
    added r t zero = nil
    added r t (suc j) = add r (dial j).1 (place_of j t) (added r t j)

    pub added_none : (r t : ℕ) → added r t 0 ≡ nil
    unfolding added
    added_none r t = refl

    pub added_more : (r t j : ℕ) → added r t (j + 1) ≡ add r (dial j).1 (place_of j t) (added r t j)
    unfolding added
    added_more r t j = ap (added r t) (let e : j + 1 ≡ suc j = omega arith in e)

    module _ (r t : ℕ) where
      figure_there : (j : ℕ) (p : ℕ × ℕ) → place_of j t ≡ Some p → p.1 ≡ figures_of (dial j).0 (dial j).1 t
      figure_there j p e = (placed parties days (of (dial j).0 (dial j).1) (track (dial j).0 (dial j).1) t p.0 p.1 e).1

      small_there : (j : ℕ) (p : ℕ × ℕ) → place_of j t ≡ Some p → p.1 ≤ 999999999
      small_there j p e = omega (arith, figure_there j p e, figure_small parties days (of (dial j).0 (dial j).1) (track (dial j).0 (dial j).1) t)

      one_size : (j n : ℕ) (x : X) (o : Option (ℕ × ℕ)) → place_of j t ≡ o → n ≤ 1000 → size x ≤ 10 ^ 9 * n → size (add r (dial j).1 o x) ≤ 10 ^ 9 * suc n
      one_size j n x None e few h = omega arith
      one_size j n x (Some p) e few h = by (eqb p.0 r)
        where
          by : (b : Bool) → size (cond b (joined x (piece p.1 (dial j).1)) x) ≤ 10 ^ 9 * suc n
          by true =
              let s = laws.piece_size p.1 (dial j).1 (small_there j p e) (omega arith) (omega arith) in
              omega (arith, laws.joined_size x (piece p.1 (dial j).1) (omega arith))
          by false = omega arith

      pub added_size : (n : ℕ) → n ≤ 1000 → size (added r t n) ≤ 10 ^ 9 * n
      unfolding added
      added_size zero few = omega (arith, laws.nil_size)
      added_size (suc j) few = one_size j j (added r t j) (place_of j t) refl (omega arith) (added_size j (omega arith))

      one_energy : (j n e : ℕ) (x : X) (o : Option (ℕ × ℕ)) → place_of j t ≡ o → n ≤ 1000 → size x ≤ 10 ^ 9 * n → energy x ≡ pos e → energy (add r (dial j).1 o x) ≡ pos (e + part r o)
      one_energy j n e x None q few h k = k ∙ ap pos (let z : e ≡ e + 0 = omega arith in z)
      one_energy j n e x (Some p) q few h k = by (eqb p.0 r)
        where
          by : (b : Bool) → energy (cond b (joined x (piece p.1 (dial j).1)) x) ≡ pos (e + cond b p.1 0)
          by true =
              let s = laws.piece_size p.1 (dial j).1 (small_there j p q) (omega arith) (omega arith) in
              laws.joined_energy x (piece p.1 (dial j).1) (omega arith)
              ∙ (ap (λ (z : ℤ). z +ℤ energy (piece p.1 (dial j).1)) k ∙ ap (λ (z : ℤ). pos e +ℤ z) (laws.piece_energy p.1 (dial j).1 (small_there j p q) (omega arith) (omega arith)))
          by false = k ∙ ap pos (let z : e ≡ e + 0 = omega arith in z)

      pub added_energy : (n : ℕ) → n ≤ 1000 → energy (added r t n) ≡ pos (before (λ j. part r (place_of j t)) n)
      unfolding added
      added_energy zero few = laws.nil_energy ∙ ap pos (sym (before_none (λ j. part r (place_of j t))))
      added_energy (suc j) few =
          let one : suc j ≡ j + 1 = omega arith in
          one_energy j j (before (λ i. part r (place_of i t)) j) (added r t j) (place_of j t) refl (omega arith) (added_size j (omega arith)) (added_energy j (omega arith))
          ∙ ap pos (sym (ap (before (λ i. part r (place_of i t))) one ∙ before_more (λ i. part r (place_of i t)) j))

      one_piece : (j : ℕ) (x : X) (ds : Dials) (o : Option (ℕ × ℕ)) → place_of j t ≡ o → x ≡ pieces nil piece joined figures_of t ds → add r (dial j).1 o x ≡ pieces nil piece joined figures_of t (list_with r (dial j) o ds)
      one_piece j x ds None e h = h
      one_piece j x ds (Some p) e h = by (eqb p.0 r)
        where
          by : (b : Bool) → cond b (joined x (piece p.1 (dial j).1)) x ≡ pieces nil piece joined figures_of t (cond b (ds ++ dial j ∷ []) ds)
          by true =
              ap (λ (z : X). joined z (piece p.1 (dial j).1)) h
              ∙ (ap (λ (z : ℕ). joined (pieces nil piece joined figures_of t ds) (piece z (dial j).1)) (figure_there j p e)
              ∙ sym (fold_push (λ (z : X) (d : ℕ × ℕ). joined z (piece (figures_of d.0 d.1 t) d.1)) nil ds (dial j)))
          by false = h

      -- the dials that have a piece there, and no others
      pub added_pieces : (n : ℕ) → added r t n ≡ pieces nil piece joined figures_of t (listed r t n)
      unfolding added
      added_pieces zero = refl
      added_pieces (suc j) = one_piece j (added r t j) (listed r t j) (place_of j t) refl (added_pieces j)
