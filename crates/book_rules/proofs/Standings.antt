-- How a site stands: computed, and one way only. Assumes nothing.
use Rattle.std.proofs.Common.{◌≡◌, ℕ, zero, suc, ◌<◌, ◌≤◌, Some, None, Option, sym, refl, ap, ◌∙◌, ⊎_elim, arith}
use Rattle.std.proofs.lemmas.Bool.{cases_order, cases_eq}
use Rattle.book_rules.specs.declared.Situation.{Situation}
use Rattle.book_rules.specs.declared.Standing.{Standing}
use Rattle.book_rules.specs.declared.Standing.TheVariants.{Running, Ended}
use Rattle.book_rules.specs.Contents.{Last, Stands, never, running, ended}
use Rattle.book_rules.specs.Tests.{standing_by, standing_on}
use Rattle.book_rules.proofs.Keys.{not_none}

module _ (f : ℕ → Option Situation) where
  pub last_once : (b c : ℕ) (x y : Situation) → Last f b x → Last f c y → (b ≡ c) × (x ≡ y)
  last_once b c x y l k = let o = cases_order b c in let h = l.none_later c in let g = k.none_later b in let i = l.starts in let j = k.starts in grind arith

  pub stands_once : (t z : Standing) → Stands f t → Stands f z → t ≡ z
  stands_once t z (never p) (never q) = refl
  stands_once t z (never p) (running {b} l e) = absurd (not_none (f b) l.starts (p b))
  stands_once t z (never p) (ended {b} l e) = absurd (not_none (f b) l.starts (p b))
  stands_once t z (running {b} l e) (never p) = absurd (not_none (f b) l.starts (p b))
  stands_once t z (running {b} {x} l e) (running {b = c} {x = y} k g) = ap Running (last_once b c x y l k).0
  stands_once t z (running {b} {x} l e) (ended {b = c} {e = w} {x = y} k g) = absurd (not_none y.end g (sym (ap (λ (v : Situation). v.end) (last_once b c x y l k).1) ∙ e))
  stands_once t z (ended {b} l e) (never p) = absurd (not_none (f b) l.starts (p b))
  stands_once t z (ended {b} {e = w} {x} l e) (running {b = c} {x = y} k g) = absurd (not_none x.end e (ap (λ (v : Situation). v.end) (last_once b c x y l k).1 ∙ g))
  stands_once t z (ended {b} {e = w} {x} l e) (ended {b = c} {e = v} {x = y} k g) =
      let o = last_once b c x y l k in let p = o.0 in let q = ap (λ (r : Situation). r.end) o.1 in cc

  on_one : (b : ℕ) (t : Standing) (o : Option Situation) → f b ≡ o → ((c : ℕ) → b < c → f c ≡ None) → (f b ≡ None → Stands f t) → Stands f (standing_on t b o)
  on_one b t None e later before = before e
  on_one b t (Some x) e later before = by_end x.end refl
    where
      by_end : (z : Option ℕ) → x.end ≡ z → Stands f (elim z [ None ↦ Running b | Some e ↦ Ended b e ])
      by_end None q = running (record { starts = e; none_later = later }) q
      by_end (Some z) q = ended (record { starts = e; none_later = later }) q

  -- looking at all days on which a situation can start finds how the site stands
  pub stands_by : (n : ℕ) → ((c : ℕ) → n ≤ c → f c ≡ None) → Stands f (standing_by f n)
  unfolding standing_by
  stands_by zero far = never (λ b. far b (omega arith))
  stands_by (suc b) far =
      on_one b (standing_by f b) (f b) refl (λ c l. far c (omega arith))
      (λ e. stands_by b (λ c l. ⊎_elim {C = f c ≡ None} (λ (h : b ≡ c). ap f (sym h) ∙ e) (λ (h : b ≡ c → ⊥). far c (omega arith)) (cases_eq b c)))
