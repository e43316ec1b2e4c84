-- The curve of a dial, written span by span. Assumes nothing.
use Rattle.std.proofs.Common.{◌≡◌, ℕ, ◌+◌, ◌-◌, ◌*◌, ◌<◌, ◌≤◌, ◌⊎◌, List, length, get_or, Some, None, Option, sym, refl, ap, ◌∙◌, subst, inl, inr, ⊎_elim, arith}
use Rattle.std.proofs.lemmas.Bool.{cases_lt, cond-true, cond-false, lt-ltb, le-ltb}
use Rattle.std.specs.List.{between}
use borrow.Rule.Slice.PartMut.{put_mid, mid_of}
use Rattle.span_rules.specs.Spans.{Span, Lies}
use Rattle.span_rules.specs.Days.{Metering}
use Rattle.span_rules.specs.Anomalies.{FirstAnomaly}
use Rattle.span_rules.specs.Figures.{Judged, figure_in, CurveOf}
use Rattle.span_rules.proofs.Tracks.{one}
use Rattle.span_rules.proofs.Steps.{Tracked}
use Rattle.spans.specs.declared.DialSpan.{DialSpan}
use Rattle.spans.specs.Finding.{Found, Begins, WithinDays}
use Rattle.judgements.specs.declared.Judgement.{Judgement}
use Rattle.judgements.specs.Judgements.{JudgedSo}
use Rattle.judgements.proofs.Figures.{weights_some, weights_all, figure_by_weights}
use Rattle.curves.specs.Writing.{SharedOut, Cleared, SpanWritten, SpansWritten}
use Rattle.curves.specs.Answers.{in_places}
use Rattle.curves.proofs.Places.{length_part, total_part, figure_part, mid_at, around_mid}

-- no index stands past the days
pub within_days : (days : ℕ) (on : ℕ → Option ℕ) → Tracked days on → WithinDays on days
within_days days on t d late = by (on d) refl
  where
    by : (o : Option ℕ) → on d ≡ o → on d ≡ None
    by None e = e
    by (Some v) e = absurd (omega (arith, t.within d v e))

-- the figures of one span, by the weights of its judgement
module _ (x : Metering) (a b e : ℕ) (ws old new : List ℕ) (j : Judgement) (forward : a < b) (weights : 48 * b ≤ length ws) (places : 48 * b ≤ length old) (long : length new ≡ length (mid_of (48 * a) (48 * b - 48 * a) old)) (judged : JudgedSo x a b e ws j) where
  span_written : SharedOut e j.all (between (48 * a) (48 * b) ws) new → SpanWritten x a b e old (put_mid (48 * a) (48 * b - 48 * a) old new)
  span_written h = record {
    here = λ n first small t lies.
        let i = t - 48 * a in
        let lo = lies.begun in let hi = lies.not_over in
        let at : 48 * a + i ≡ t = omega arith in
        let le : 48 * a ≤ 48 * b = omega arith in
        let part : i < 48 * b - 48 * a = omega arith in
        mid_at (48 * a) (48 * b) old new le places long t lo hi
        ∙ (h small (weights_some x a b e ws j forward judged) judged.bound (weights_all x a b e ws j judged ∙ sym (total_part (48 * a) (48 * b) ws le weights)) i (omega (arith, length_part (48 * a) (48 * b) ws le weights))
        ∙ (figure_part (48 * a) (48 * b) ws le weights e i part
        ∙ (figure_by_weights x a b e ws j forward judged n first i part ∙ ap (figure_in x a b e n) at)));
    other = λ t out. around_mid (48 * a) (48 * b) old new (omega arith) places long t (outside t out);
  }
    where
      outside : (t : ℕ) → (Lies a b t → ⊥) → (t < 48 * a) ⊎ (48 * b ≤ t)
      outside t out =
          ⊎_elim {C = (t < 48 * a) ⊎ (48 * b ≤ t)} (λ (early : t < 48 * a). inl early)
          (λ (lo : 48 * a ≤ t). ⊎_elim {C = (t < 48 * a) ⊎ (48 * b ≤ t)} (λ (hi : t < 48 * b). absurd (out (record { begun = lo; not_over = hi }))) (λ (late : 48 * b ≤ t). inr late) (cases_lt t (48 * b))) (cases_lt t (48 * a))

-- the same where the half-hours are told otherwise, once for the weights and once for the places
pub span_written_at : (x : Metering) (a b e p q r s : ℕ) (ws old new : List ℕ) (j : Judgement) → p ≡ 48 * a → q ≡ 48 * b → r ≡ 48 * a → s ≡ 48 * b → a < b → 48 * b ≤ length ws → 48 * b ≤ length old → JudgedSo x a b e ws j
    → length new ≡ length (mid_of r (s - r) old) → SharedOut e j.all (between p q ws) new → SpanWritten x a b e old (put_mid r (s - r) old new)
span_written_at x a b e p q r s ws old new j p_is q_is r_is s_is forward weights places judged long h =
    let h₁ = subst (λ (k : ℕ). SharedOut e j.all (between k (48 * b) ws) new) p_is (subst (λ (k : ℕ). SharedOut e j.all (between p k ws) new) q_is h) in
    let long₁ = subst (λ (k : ℕ). length new ≡ length (mid_of k (48 * b - k) old)) r_is (subst (λ (k : ℕ). length new ≡ length (mid_of r (k - r) old)) s_is long) in
    let done = span_written x a b e ws old new j forward weights places long₁ judged h₁ in
    subst (λ (k : ℕ). SpanWritten x a b e old (put_mid r (k - r) old new)) (sym s_is) (subst (λ (k : ℕ). SpanWritten x a b e old (put_mid k (48 * b - k) old new)) (sym r_is) done)

module _ (x : Metering) (days : ℕ) where
  pub spans_none : (old new : List ℕ) → Cleared (48 * days) old new → SpansWritten x days 0 new new
  spans_none old new h = record {
    in_spans = λ a b u v j judged lt. absurd (omega arith);
    elsewhere = λ t lt none. h.zeros t lt;
    past = λ t le. refl;
  }

  -- a day on which no span begins
  pub spans_same : (n : ℕ) (old new : List ℕ) → Begins x.on days n None → SpansWritten x days n old new → SpansWritten x days (n + 1) old new
  spans_same n old new none was = record {
    in_spans = λ a b u v j judged lt le small t lies.
        ⊎_elim {C = get_or new t 0 ≡ figure_in x a b (v - u) j t}
        (λ (early : a < n). was.in_spans a b u v j judged early le small t lies)
        (λ (late : n ≤ a). let same : a ≡ n = omega arith in absurd (none b u v le (subst (λ (k : ℕ). Span x.on k b u v) same judged.span)))
        (cases_lt a n);
    elsewhere = λ t lt no. was.elsewhere t lt (λ a b u v s early le lies. no a b u v s (omega arith) le lies);
    past = was.past;
  }

  -- a day on which a span begins, and its figures are written
  pub spans_more : (n : ℕ) (s : DialSpan) (old mid new : List ℕ) → Found x.on days n s → SpanWritten x s.from s.to s.energy mid new → SpansWritten x days n old mid → SpansWritten x days (n + 1) old new
  spans_more n s old mid new found h was = record {
    in_spans = λ a b u v j judged lt le small t lies.
        ⊎_elim {C = get_or new t 0 ≡ figure_in x a b (v - u) j t}
        (λ (early : a < n).
        h.other t (λ here. apart a b u v judged.span t lies here early) ∙ was.in_spans a b u v j judged early le small t lies)
        (λ (late : n ≤ a).
        let same : a ≡ s.from = omega (arith, found.begins) in
        this a b u v j judged small t lies same)
        (cases_lt a n);
    elsewhere = λ t lt no.
        h.other t (λ here. no s.from s.to found.u found.v found.span (omega (arith, found.begins)) found.within here)
        ∙ was.elsewhere t lt (λ a b u v z early le lies. no a b u v z (omega arith) le lies);
    past = λ t le. h.other t (λ here. omega (arith, here.not_over, found.within)) ∙ was.past t le;
  }
    where
      apart : (a b u v : ℕ) → Span x.on a b u v → (t : ℕ) → Lies a b t → Lies s.from s.to t → a < n → ⊥
      apart a b u v z t lies here early = omega (arith, (one x.on t a b u v s.from s.to found.u found.v z lies found.span here).0, found.begins)

      this : (a b u v : ℕ) (j : Option ℕ) → Judged x a b u v j → v ≤ 999999999 → (t : ℕ) → Lies a b t → a ≡ s.from → get_or new t 0 ≡ figure_in x a b (v - u) j t
      this a b u v j judged small t lies same =
          let z : Span x.on s.from b u v = subst (λ (k : ℕ). Span x.on k b u v) same judged.span in
          let l : Lies s.from b t = subst (λ (k : ℕ). Lies k b t) same lies in
          let ends : b ≡ s.to = (one x.on (48 * s.from) s.from b u v s.from s.to found.u found.v z (record { begun = omega arith; not_over = omega (arith, z.forward) }) found.span (record { begun = omega arith; not_over = omega (arith, found.span.forward) })).1 in
          let vals = one x.on (48 * s.from) s.from b u v s.from s.to found.u found.v z (record { begun = omega arith; not_over = omega (arith, z.forward) }) found.span (record { begun = omega arith; not_over = omega (arith, found.span.forward) }) in
          let energy : s.energy ≡ v - u = omega (arith, found.energy, vals.2, vals.3) in
          let first : FirstAnomaly x s.from s.to s.energy j =
          subst (λ (k : ℕ). FirstAnomaly x s.from s.to k j) (sym energy) (subst (λ (k : ℕ). FirstAnomaly x s.from k (v - u) j) ends (subst (λ (k : ℕ). FirstAnomaly x k b (v - u) j) same judged.first)) in
          h.here j first (omega arith) t (subst (λ (k : ℕ). Lies s.from k t) ends l)
          ∙ (ap (λ (k : ℕ). figure_in x s.from s.to k j t) energy ∙ (ap (λ (k : ℕ). figure_in x s.from k (v - u) j t) (sym ends) ∙ ap (λ (k : ℕ). figure_in x k b (v - u) j t) (sym same)))

  -- all days: the curve, where the indexes lie within the days and the bound
  pub curve_written : (old new : List ℕ) → Tracked days x.on → SpansWritten x days days old new → CurveOf x (in_places (48 * days) new)
  curve_written old new track was = record {
    in_spans = λ a b u v j judged t lies.
        let le = track.within b v judged.span.last in
        let lt : t < 48 * days = omega (arith, lies.not_over) in
        cond-true _ _ _ (lt-ltb t (48 * days) lt) ∙ was.in_spans a b u v j judged (omega (arith, judged.span.forward)) le (track.bounded b v judged.span.last) t lies;
    elsewhere = λ t none.
        ⊎_elim {C = in_places (48 * days) new t ≡ 0}
        (λ (lt : t < 48 * days). cond-true _ _ _ (lt-ltb t (48 * days) lt) ∙ was.elsewhere t lt (λ a b u v s early le lies. none a b u v s lies))
        (λ (ge : 48 * days ≤ t). cond-false _ _ _ (le-ltb t (48 * days) ge))
        (cases_lt t (48 * days));
  }
