-- The situation of a day is the one that covers it. Assumes nothing.
use Rattle.std.proofs.Common.{◌≡◌, ℕ, ◌+◌, ◌<◌, ◌≤◌, Bool, true, false, cond, Some, None, Option, sym, refl, ap, ◌∙◌, subst, arith}
use Rattle.std.proofs.lemmas.Bool.{ltb-true, lt-ltb, cond-true}
use Rattle.book_rules.specs.declared.Situation.{Situation}
use Rattle.book_rules.specs.Laws.{Chain}
use Rattle.span_rules.specs.Lasts.{last_before}
use Rattle.span_rules.specs.Days.{not_ended, unless_ended, serving, Covers}
use Rattle.span_rules.specs.Laws.{Covering}
use Rattle.span_rules.proofs.Lasts.{Latest, latest_by, last_at}

pub serving_is : (f : ℕ → Option Situation) (d : ℕ) → serving f d ≡ unless_ended d (last_before f (d + 1))
unfolding serving
serving_is f d = refl

not_ended_says : (d : ℕ) (o : Option ℕ) → not_ended d o ≡ true → (e : ℕ) → o ≡ Some e → d < e
not_ended_says d None h e q = let z : ◌≡◌ {A = ℕ} 0 1 = cc in absurd (omega arith)
not_ended_says d (Some c) h e q = let same : c ≡ e = cc in let lt = ltb-true d c h in omega arith

not_ended_by : (d : ℕ) (o : Option ℕ) → ((e : ℕ) → o ≡ Some e → d < e) → not_ended d o ≡ true
not_ended_by d None h = refl
not_ended_by d (Some c) h = lt-ltb d c (h c refl)

-- what has not ended
pub running : (d : ℕ) (o : Option (ℕ × Situation)) (v : ℕ × Situation) → unless_ended d o ≡ Some v → (o ≡ Some v) × (not_ended d v.1.end ≡ true)
running d None v h = let z : ◌≡◌ {A = ℕ} 0 1 = cc in absurd (omega arith)
running d (Some w) v h = by (not_ended d w.1.end) refl h
  where
    by : (t : Bool) → not_ended d w.1.end ≡ t → cond t (Some w) None ≡ Some v → (Some w ≡ Some v) × (not_ended d v.1.end ≡ true)
    by true e q = let same : w ≡ v = cc in (q, subst (λ (z : ℕ × Situation). not_ended d z.1.end ≡ true) same e)
    by false e q = let z : ◌≡◌ {A = ℕ} 0 1 = cc in absurd (omega arith)

covers : (f : ℕ → Option Situation) (d c : ℕ) (y : Situation) → serving f d ≡ Some (c, y) → Covers f d c y
covers f d c y h =
    let r = running d (last_before f (d + 1)) (c, y) (sym (serving_is f d) ∙ h) in
    let l = latest_by f (d + 1) (c, y) r.0 in
    record { starts = l.stands; begun = omega (arith, l.early); not_over = not_ended_says d y.end r.1 }

serves : (days : ℕ) (f : ℕ → Option Situation) → Chain days f → (d c : ℕ) (y : Situation) → Covers f d c y → serving f d ≡ Some (c, y)
serves days f chain d c y h =
    serving_is f d
    ∙ (ap (unless_ended d) (last_at f (d + 1) (c, y) (record { early = omega (arith, h.begun); stands = h.starts; none_later = λ e gt lt. by e gt lt (f e) refl }))
    ∙ cond-true _ _ _ (not_ended_by d y.end h.not_over))
  where
    by : (e : ℕ) → c < e → e < d + 1 → (o : Option Situation) → f e ≡ o → f e ≡ None
    by e gt lt None q = q
    by e gt lt (Some z) q =
        let a = chain.apart c e y z gt h.starts q in
        absurd (omega (arith, h.not_over a.0 a.1, a.2))

pub covering : Covering
covering = record { covers = covers; serves = serves }
