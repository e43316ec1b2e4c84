-- The judgement on a span, from its grounds, its weights and its factor. Assumes nothing.
use Rattle.std.proofs.Common.{◌≡◌, ℕ, ◌+◌, ◌-◌, ◌*◌, ◌/◌, ◌<◌, ◌≤◌, Bool, true, false, cond, ◌&&◌, eqb, leb, is_some, Some, None, Ok, Err, Option, Result, sym, refl, ap, ◌∙◌, subst, arith}
use Rattle.std.proofs.lemmas.Bool.{eqb-true, eqb-false, and_parts, and_from, le-leb, both_ways}
use Rattle.refusals.specs.declared.Refusal.{Refusal}
use Rattle.profiles.specs.declared.Profile.{Profile}
use Rattle.profiles.specs.Table.{profile_of}
use Rattle.profiles.proofs.Owners.{sub_profiles_apart}
use Rattle.sharing.specs.Shares.{before}
use Rattle.factors.specs.Extremes.{extreme, Extreme}
use Rattle.factors.proofs.Signs.{test_tells}
use Rattle.book_rules.specs.declared.Situation.{Situation}
use Rattle.book_rules.specs.declared.Terms.{Terms}
use Rattle.span_rules.specs.Lasts.{later, last_before}
use Rattle.span_rules.specs.Spans.{Lies}
use Rattle.span_rules.specs.Days.{Metering, serving, of_profile, sub_profile_under, sub_profile_in, weight_by, own, own_sum, from}
use Rattle.span_rules.specs.Anomalies.{Holds, no_situation, several, no_dial, zero_weight, extreme_factor, FirstAnomaly}
use Rattle.span_rules.proofs.Sums.{before_same}
use Rattle.span_rules.proofs.Lasts.{last_more, latest_by}
use Rattle.span_rules.proofs.Serving.{serving_is, running}
use Rattle.span_rules.proofs.Judging.{first_1, first_2, first_3, first_4, first_5, no_anomaly}
use Rattle.span_rules.proofs.Tracks.{differ}
use Rattle.spans.specs.declared.Anomaly.{Anomaly}
use Rattle.spans.specs.declared.Anomaly.TheVariants.{NoSituation, SeveralSituations, NoDial, ZeroWeight, ExtremeFactor}
use Rattle.spans.specs.declared.Grounds.{Grounds}
use Rattle.spans.specs.Numbers.{number_of, numbered}
use Rattle.spans.specs.Judging.{Throughout, Grounded, GroundsTold, anomaly_by}

-- a sub-profile is 0 to 7
pub sub_profile_bound : (t : Terms) (dial p : ℕ) → sub_profile_under t dial ≡ Some p → p ≤ 7
unfolding sub_profile_under
sub_profile_bound t dial p h = by (profile_of t.class t.power) h
  where
    by : (r : Result Profile Refusal) → of_profile r dial ≡ Some p → p ≤ 7
    by (Ok q) k = sub_profiles_apart.bounded q dial p k
    by (Err q) k = let z : ◌≡◌ {A = ℕ} 0 1 = cc in absurd (omega arith)

there : {X : Type 0} (o : Option X) → is_some o ≡ true → (x : X) × (o ≡ Some x)
there None h = absurd (both_ways true (sym h) refl)
there (Some x) h = (x, refl)

module _ (x : Metering) (a b e : ℕ) where
  -- the days lie in one situation
  module _ (c : ℕ) (y : Situation) (all : Throughout x.starting a b c y) where
    same_start : (d p : ℕ) (z : Situation) → a ≤ d → d < b → serving x.starting d ≡ Some (p, z) → ◌≡◌ {A = ℕ × Situation} (p, z) (c, y)
    same_start d p z ad db s = let t = all d ad db in cc

    not_1 : Holds x a b e 1 → ⊥
    not_1 (no_situation d ad db s) = differ _ (all d ad db) s

    not_2 : Holds x a b e 2 → ⊥
    not_2 (several i j p q y₁ y₂ ai ib aj jb si sj ne) = ne (ap (λ (v : ℕ × Situation). v.0) (same_start i p y₁ ai ib si ∙ sym (same_start j q y₂ aj jb sj)))

    not_3 : (p : ℕ) → sub_profile_under y.terms x.dial ≡ Some p → Holds x a b e 3 → ⊥
    not_3 p has (no_dial d q z ad db s l) = differ _ (ap (λ (v : ℕ × Situation). sub_profile_under v.1.terms x.dial) (same_start d q z ad db s) ∙ has) l

    not_4 : (own_sum x a b ≡ 0 → ⊥) → Holds x a b e 4 → ⊥
    not_4 n (zero_weight h) = n h

    not_5 : (p : ℕ) → sub_profile_under y.terms x.dial ≡ Some p → (Extreme x.k (x.theta p) y.terms.power e (own_sum x a b) → ⊥) → Holds x a b e 5 → ⊥
    not_5 p has n (extreme_factor d q p₁ z ad db s has₁ far) =
        let same = same_start d q z ad db s in
        let same_sub : p₁ ≡ p = same_some (sym has₁ ∙ (ap (λ (v : ℕ × Situation). sub_profile_under v.1.terms x.dial) same ∙ has)) in
        n (subst (λ (k : ℕ). Extreme x.k (x.theta k) y.terms.power e (own_sum x a b)) same_sub (subst (λ (v : ℕ × Situation). Extreme x.k (x.theta p₁) v.1.terms.power e (own_sum x a b)) same far))
      where
        same_some : {u v : ℕ} → Some u ≡ Some v → u ≡ v
        same_some h = cc

  change_starts : (f : ℕ → Option Situation) (d : ℕ) (y : Situation) → f d ≡ Some y → (p : ℕ) (z : Situation) → serving f d ≡ Some (p, z) → p ≡ d
  change_starts f d y h p z s =
      let r = running d (last_before f (d + 1)) (p, z) (sym (serving_is f d) ∙ s) in
      let l : last_before f (d + 1) ≡ Some (d, y) = last_more f d ∙ ap (λ (o : Option Situation). later d o (last_before f d)) h in
      same (sym r.0 ∙ l)
    where
      same : ◌≡◌ {A = Option (ℕ × Situation)} (Some (p, z)) (Some (d, y)) → p ≡ d
      same k = let pair : ◌≡◌ {A = ℕ × Situation} (p, z) (d, y) = cc in ap (λ (v : ℕ × Situation). v.0) pair

  started : (f : ℕ → Option Situation) (d p : ℕ) (z : Situation) → serving f d ≡ Some (p, z) → p ≤ d
  started f d p z s =
      let r = running d (last_before f (d + 1)) (p, z) (sym (serving_is f d) ∙ s) in
      omega (arith, (latest_by f (d + 1) (p, z) r.0).early)

  -- a span without grounds has the anomaly that was told
  pub without_grounds : a < b → (n : Anomaly) → GroundsTold x.starting x.dial a b (Err n) → FirstAnomaly x a b e (Some (number_of n))
  without_grounds lt NoSituation g = first_1 x a b e (no_situation g.day g.begun g.not_over g.none)
  without_grounds lt SeveralSituations g =
      let first = there (serving x.starting a) (g.served a (omega arith) lt) in
      let other = there (serving x.starting g.day) (g.served g.day (omega (arith, g.inside)) g.not_over) in
      let new = there (x.starting g.day) g.starts in
      first_2 x a b e
      (served_not_1 g.served)
      (several a g.day first.0.0 other.0.0 first.0.1 other.0.1 (omega arith) lt (omega (arith, g.inside)) g.not_over first.1 other.1
      (λ same. omega (arith, g.inside, started x.starting a first.0.0 first.0.1 first.1, change_starts x.starting g.day new.0 new.1 other.0.0 other.0.1 other.1)))
    where
      served_not_1 : ((d : ℕ) → a ≤ d → d < b → is_some (serving x.starting d) ≡ true) → Holds x a b e 1 → ⊥
      served_not_1 served (no_situation d ad db s) = both_ways (is_some (serving x.starting d)) (ap is_some s) (served d ad db)
  without_grounds lt NoDial g =
      first_3 x a b e (not_1 g.start g.situation g.throughout) (not_2 g.start g.situation g.throughout)
      (no_dial a g.start g.situation (omega arith) lt (g.throughout a (omega arith) lt) g.lacks)
  without_grounds lt ZeroWeight g = absurd g
  without_grounds lt ExtremeFactor g = absurd g

  module _ (lt : a < b) (g : Grounds) (on : Grounded x.starting x.dial a b g) where
    abbrev Far : Bool
    Far = leb g.sub_profile 7 && extreme x.k (x.theta g.sub_profile) g.power e (own_sum x a b)

    n1 : Holds x a b e 1 → ⊥
    n1 = not_1 on.start on.situation on.throughout

    n2 : Holds x a b e 2 → ⊥
    n2 = not_2 on.start on.situation on.throughout

    n3 : Holds x a b e 3 → ⊥
    n3 = not_3 on.start on.situation on.throughout g.sub_profile on.sub_profile

    by_factor : (own_sum x a b ≡ 0 → ⊥) → (t : Bool) → Far ≡ t → FirstAnomaly x a b e (numbered (cond t (Some ExtremeFactor) None))
    by_factor some true h =
        first_5 x a b e n1 n2 n3 (not_4 on.start on.situation on.throughout some)
        (extreme_factor a on.start g.sub_profile on.situation (omega arith) lt (on.throughout a (omega arith) lt) on.sub_profile
        (subst (λ (k : ℕ). Extreme x.k (x.theta g.sub_profile) k e (own_sum x a b)) on.power
        ((test_tells x.k (x.theta g.sub_profile) g.power e (own_sum x a b)).0 (and_parts _ _ h).1)))
    by_factor some false h =
        no_anomaly x a b e n1 n2 n3 (not_4 on.start on.situation on.throughout some)
        (not_5 on.start on.situation on.throughout g.sub_profile on.sub_profile
        (λ far. both_ways Far h (and_from _ _ (le-leb _ _ (sub_profile_bound on.situation.terms x.dial g.sub_profile on.sub_profile))
        ((test_tells x.k (x.theta g.sub_profile) g.power e (own_sum x a b)).1 (subst (λ (k : ℕ). Extreme x.k (x.theta g.sub_profile) k e (own_sum x a b)) (sym on.power) far)))))

    by_sum : (t : Bool) → eqb (own_sum x a b) 0 ≡ t → FirstAnomaly x a b e (numbered (cond t (Some ZeroWeight) (cond Far (Some ExtremeFactor) None)))
    by_sum true h = first_4 x a b e n1 n2 n3 (zero_weight (eqb-true (own_sum x a b) 0 h))
    by_sum false h = by_factor (eqb-false (own_sum x a b) 0 h) Far refl

    -- one with grounds has the anomaly that its weights and its factor make
    pub with_grounds : FirstAnomaly x a b e (numbered (anomaly_by x.k x.theta g e (own_sum x a b)))
    with_grounds = by_sum (eqb (own_sum x a b) 0) refl

-- the source's weights of a span with grounds are those of its sub-profile
module _ (x : Metering) (a b : ℕ) (g : Grounds) (on : Grounded x.starting x.dial a b g) where
  pub own_by : (t : ℕ) → Lies a b t → own x t ≡ x.weights g.sub_profile t
  unfolding own
  own_by t l =
      ap (λ (o : Option (ℕ × Situation)). weight_by x.weights (sub_profile_in o x.dial) t) (on.throughout (t / 48) (omega (arith, l.begun)) (omega (arith, l.not_over)))
      ∙ ap (λ (o : Option ℕ). weight_by x.weights o t) on.sub_profile

  pub own_sum_by : own_sum x a b ≡ before (from (x.weights g.sub_profile) (48 * a)) (48 * (b - a))
  unfolding own_sum
  own_sum_by = before_same _ _ (48 * (b - a)) (λ i h. own_by (48 * a + i) (record { begun = omega arith; not_over = omega arith }))
