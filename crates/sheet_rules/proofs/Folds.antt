-- Pieces joined in any order, by the laws of joining alone. Assumes nothing.
use Rattle.std.proofs.Common.{◌≡◌, ℕ, zero, suc, ◌+◌, ◌*◌, ◌^◌, ◌<◌, ◌≤◌, ◌⊎◌, List, [], ◌∷◌, ◌++◌, length, ℤ, fold, sym, refl, ap, ◌∙◌, subst, inl, inr, ⊎_elim, arith}
use Rattle.amounts.specs.Laws.{Joining}
use Rattle.sheet_rules.specs.Dials.{Among, WithoutRepeats}
use Rattle.sheet_rules.proofs.Lists.{Dials, Split, split, among_rest, among_here, apart_rest, length_rest, SameMembers, same_rest, no_members, same_length}

module _ {X : Type 0} {nil : X} {piece : ℕ → ℕ → X} {joined : X → X → X} {energy : X → ℤ} {size : X → ℕ} (laws : Joining nil piece joined energy size) where
  -- two small ones change places
  pub regrouped : (x p q : X) → size x + 2 * 10 ^ 9 ≤ 10 ^ 15 → size p ≤ 10 ^ 9 → size q ≤ 10 ^ 9 → joined (joined x p) q ≡ joined (joined x q) p
  regrouped x p q room a b =
      let xp = laws.joined_size x p (omega arith) in
      let xq = laws.joined_size x q (omega arith) in
      let pq = laws.joined_size p q (omega arith) in
      let qp = laws.joined_size q p (omega arith) in
      laws.associates x p q (omega arith) (omega arith) (omega arith) (omega arith)
      ∙ (ap (joined x) (laws.commutes p q (omega arith)) ∙ sym (laws.associates x q p (omega arith) (omega arith) (omega arith) (omega arith)))

  module _ (f : ℕ × ℕ → X) where
    abbrev pub step : X → ℕ × ℕ → X
    step x d = joined x (f d)

    -- the pieces of a list are small
    abbrev pub SmallPieces : Dials → Type 0
    SmallPieces ds = (d : ℕ × ℕ) → Among d ds → size (f d) ≤ 10 ^ 9

    -- one joined first is one joined last
    pub moved : (x : X) (d : ℕ × ℕ) (ds : Dials) → size (f d) ≤ 10 ^ 9 → SmallPieces ds → size x + 10 ^ 9 * (length ds + 1) ≤ 10 ^ 15 → fold step (joined x (f d)) ds ≡ joined (fold step x ds) (f d)
    moved x d [] small all room = refl
    moved x d (e ∷ es) small all room =
        let fe = all e (inl refl) in
        let xe = laws.joined_size x (f e) (omega arith) in
        ap (λ (z : X). fold step z es) (regrouped x (f d) (f e) (omega arith) small fe)
        ∙ moved (joined x (f e)) d es small (λ z m. all z (inr m)) (omega arith)

    pub taken_out : (x : X) (d : ℕ × ℕ) (front back : Dials) → SmallPieces (front ++ d ∷ back) → size x + 10 ^ 9 * (length (front ++ back) + 1) ≤ 10 ^ 15 → fold step x (front ++ d ∷ back) ≡ joined (fold step x (front ++ back)) (f d)
    taken_out x d [] back all room = moved x d back (all d (inl refl)) (λ z m. all z (inr m)) room
    taken_out x d (e ∷ es) back all room =
        let fe = all e (inl refl) in
        let xe = laws.joined_size x (f e) (omega arith) in
        taken_out (joined x (f e)) d es back (λ z m. all z (inr m)) (omega arith)

    -- the same pieces, joined in another order
    pub same_joined : (x : X) (es ds : Dials) → WithoutRepeats es → WithoutRepeats ds → SameMembers ds es → SmallPieces es → size x + 10 ^ 9 * length es ≤ 10 ^ 15 → fold step x ds ≡ fold step x es
    same_joined x [] ds one other same all room = ap (fold step x) (no_members ds same)
    same_joined x (e ∷ es) ds one other same all room =
        let s = split e ds (same.backward e (inl refl)) in
        let other' : WithoutRepeats (s.front ++ e ∷ s.back) = subst WithoutRepeats s.is other in
        let same' : SameMembers (s.front ++ e ∷ s.back) (e ∷ es) = subst (λ (zs : Dials). SameMembers zs (e ∷ es)) s.is same in
        let rest = same_rest e es s.front s.back one other' same' in
        let apart = apart_rest e s.front s.back other' in
        let long = same_length es (s.front ++ s.back) one.1 apart rest in
        ap (fold step x) s.is
        ∙ (taken_out x e s.front s.back (λ z m. all z (same'.onward z m)) (omega arith)
        ∙ (ap (λ (z : X). joined z (f e)) (same_joined x es (s.front ++ s.back) one.1 apart rest (λ z m. all z (inr m)) (omega arith))
        ∙ sym (moved x e es (all e (inl refl)) (λ z m. all z (inr m)) (omega arith))))
