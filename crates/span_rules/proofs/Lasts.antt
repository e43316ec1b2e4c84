-- The last one of what is told by day. Assumes nothing.
use Rattle.std.proofs.Common.{◌≡◌, ℕ, zero, suc, ◌+◌, ◌-◌, ◌<◌, ◌≤◌, ◌⊎◌, Some, None, Option, sym, refl, ap, ◌∙◌, subst, ⊎_elim, add-one, arith}
use Rattle.std.proofs.lemmas.Bool.{cases_lt}
use Rattle.span_rules.specs.Lasts.{later, last_before}

-- p.1 stands on day p .0, before n, and none between
pub record Latest {X : Type 0} (f : ℕ → Option X) (n : ℕ) (p : ℕ × X) : Type 0 where
  pub early : p.0 < n
  pub stands : f p.0 ≡ Some p.1
  pub none_later : (d : ℕ) → p.0 < d → d < n → f d ≡ None

module _ {X : Type 0} (f : ℕ → Option X) where
  pub last_none : last_before f 0 ≡ None
  unfolding last_before
  last_none = refl

  pub last_more : (n : ℕ) → last_before f (n + 1) ≡ later n (f n) (last_before f n)
  unfolding last_before
  last_more n = rw add-one

  on_one : (n : ℕ) (p : ℕ × X) (o : Option X) (l : Option (ℕ × X)) → f n ≡ o → (l ≡ Some p → Latest f n p) → later n o l ≡ Some p → Latest f (n + 1) p
  on_one n p None l e was h =
      let k = was h in
      record {
        early = omega (arith, k.early);
        stands = k.stands;
        none_later = λ d gt lt. ⊎_elim {C = f d ≡ None} (λ (b : d < n). k.none_later d gt b) (λ (b : n ≤ d). let same : d ≡ n = omega arith in ap f same ∙ e) (cases_lt d n);
      }
  on_one n p (Some x) l e was h =
      let same : (n, x) ≡ p = cc in
      subst (λ (q : ℕ × X). Latest f (n + 1) q) same (record { early = omega arith; stands = e; none_later = λ d gt lt. absurd (omega arith) })

  pub latest_by : (n : ℕ) (p : ℕ × X) → last_before f n ≡ Some p → Latest f n p
  latest_by zero p h = let nothing = last_none in let z : ◌≡◌ {A = ℕ} 0 1 = cc in absurd (omega arith)
  latest_by (suc n) p h =
      let one : suc n ≡ n + 1 = omega arith in
      subst (λ (k : ℕ). Latest f k p) (sym one) (on_one n p (f n) (last_before f n) refl (latest_by n p) (sym (last_more n) ∙ (ap (last_before f) (sym one) ∙ h)))

  -- where none stands in between the last one stays
  pub last_kept : (a n : ℕ) → ((d : ℕ) → a ≤ d → d < a + n → f d ≡ None) → last_before f (a + n) ≡ last_before f a
  last_kept a zero h = ap (last_before f) (let e : a + 0 ≡ a = omega arith in e)
  last_kept a (suc n) h =
      let far : a + suc n ≡ a + n + 1 = omega arith in
      ap (last_before f) far ∙ (last_more (a + n) ∙ (ap (λ (o : Option X). later (a + n) o (last_before f (a + n))) (h (a + n) (omega arith) (omega arith)) ∙ last_kept a n (λ d lo hi. h d lo (omega arith))))

  pub last_at : (n : ℕ) (p : ℕ × X) → Latest f n p → last_before f n ≡ Some p
  last_at n p l =
      let c = p.0 in let m = n - suc c in
      let whole : n ≡ c + 1 + m = omega (arith, l.early) in
      ap (last_before f) whole
      ∙ (last_kept (c + 1) m (λ d lo hi. l.none_later d (omega arith) (omega arith))
      ∙ (last_more c ∙ ap (λ (o : Option X). later c o (last_before f c)) l.stands))

  -- none before n
  empty_one : (n : ℕ) (o : Option X) → f n ≡ o → last_before f (n + 1) ≡ None → (last_before f n ≡ None → (d : ℕ) → d < n → f d ≡ None) → (d : ℕ) → d < n + 1 → f d ≡ None
  empty_one n None e less was d lt =
      ⊎_elim {C = f d ≡ None}
      (λ (b : d < n). was (sym (ap (λ (o : Option X). later n o (last_before f n)) e) ∙ (sym (last_more n) ∙ less)) d b)
      (λ (b : n ≤ d). let same : d ≡ n = omega arith in ap f same ∙ e)
      (cases_lt d n)
  empty_one n (Some x) e less was d lt =
      let here : last_before f (n + 1) ≡ Some (n, x) = last_more n ∙ ap (λ (o : Option X). later n o (last_before f n)) e in
      let z : ◌≡◌ {A = ℕ} 0 1 = cc in
      absurd (omega arith)

  pub last_empty : (n : ℕ) → last_before f n ≡ None → (d : ℕ) → d < n → f d ≡ None
  last_empty zero h d lt = absurd (omega arith)
  last_empty (suc n) h d lt =
      let one : suc n ≡ n + 1 = omega arith in
      empty_one n (f n) refl (ap (last_before f) (sym one) ∙ h) (last_empty n) d (omega arith)
