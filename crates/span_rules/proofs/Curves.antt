-- The figures of a dial, by the laws of sharing. Assumes nothing.
use Rattle.std.proofs.Common.{◌≡◌, ℕ, zero, suc, ◌+◌, ◌-◌, ◌*◌, ◌<◌, ◌≤◌, Some, None, Option, sym, refl, ap, ◌∙◌, subst, arith}
use Rattle.sharing.specs.Shares.{before, figure}
use Rattle.sharing.specs.Laws.{Fair}
use Rattle.sharing.proofs.Sums.{before_none, before_more}
use Rattle.sharing.proofs.Fairness.{running_laws, fair, figure_is}
use Rattle.span_rules.specs.Spans.{Span, Lies, FirstIndex, LastIndex, Ends, Fewer}
use Rattle.span_rules.specs.Days.{Metering, own, own_sum, from}
use Rattle.span_rules.specs.Anomalies.{zero_weight, FirstAnomaly}
use Rattle.span_rules.specs.Figures.{used, Judged, figure_in, CurveOf}
use Rattle.span_rules.specs.Laws.{NeverFall, Energies, AddsUp, SpansFair}
use Rattle.span_rules.proofs.Sums.{before_same, before_parts, before_zeros, before_ones}
use Rattle.span_rules.proofs.Judging.{one_judgement}
use Rattle.span_rules.proofs.Tracks.{differ, one, telescope}

-- figures depend on the weights of the span's half-hours alone
pub figure_same : (e : ℕ) (w z : ℕ → ℕ) (n i : ℕ) → ((t : ℕ) → t < n → w t ≡ z t) → i < n → figure e w n i ≡ figure e z n i
figure_same e w z n i h lt =
    let upto : (k : ℕ) → k ≤ n → before w k ≡ before z k = λ k le. before_same w z k (λ t l. h t (omega arith)) in
    figure_is e w n i ∙ (cc (upto n (omega arith), upto i (omega arith), upto (i + 1) (omega arith), figure_is e z n i))

one_place : (f : ℕ → ℕ) → before f 1 ≡ f 0
one_place f = omega (arith, before_more f 0, before_none f)

pub figure_in_is : (x : Metering) (a b e : ℕ) (n : Option ℕ) (i : ℕ) → figure_in x a b e n (48 * a + i) ≡ figure e (from (used x n) (48 * a)) (48 * (b - a)) i
unfolding figure_in
figure_in_is x a b e n i = ap (figure e (from (used x n) (48 * a)) (48 * (b - a))) (let k : 48 * a + i - 48 * a ≡ i = omega arith in k)

pub own_sum_is : (x : Metering) (a b : ℕ) → own_sum x a b ≡ before (from (own x) (48 * a)) (48 * (b - a))
unfolding own_sum
own_sum_is x a b = refl

-- the weights used of a span are not all 0
pub used_some : (x : Metering) (a b e : ℕ) (n : Option ℕ) → a < b → FirstAnomaly x a b e n → 0 < before (from (used x n) (48 * a)) (48 * (b - a))
used_some x a b e None lt first = positive (before (from (own x) (48 * a)) (48 * (b - a))) (λ h. first 4 (zero_weight (own_sum_is x a b ∙ h)))
  where
    positive : (s : ℕ) → (s ≡ 0 → ⊥) → 0 < s
    positive zero h = absurd (h refl)
    positive (suc s) h = omega arith
used_some x a b e (Some k) lt first = omega (arith, before_ones (from (used x (Some k)) (48 * a)) (48 * (b - a)) (λ t. refl))

pub spans_fair : SpansFair
spans_fair x a b u v n j = fair running_laws (v - u) (from (used x n) (48 * a)) (48 * (b - a)) (used_some x a b (v - u) n j.span.forward j.first)

module _ (x : Metering) (figures : ℕ → ℕ) (curve : CurveOf x figures) where
  -- one span more
  span_sum : (c d p q : ℕ) → Span x.on c d p q → before figures (48 * d) ≡ before figures (48 * c) + (q - p)
  span_sum c d p q s =
      let n = one_judgement.some x c d (q - p) in
      let j : Judged x c d p q n.0 = record { span = s; first = n.1 } in
      let w = from (used x n.0) (48 * c) in let size = 48 * (d - c) in
      let whole : 48 * d ≡ 48 * c + size = omega (arith, s.forward) in
      let here : before (from figures (48 * c)) size ≡ before (figure (q - p) w size) size =
      before_same _ _ size (λ i lt. curve.in_spans c d p q n.0 j (48 * c + i) (record { begun = omega arith; not_over = omega (arith, s.forward) }) ∙ figure_in_is x c d (q - p) n.0 i) in
      let all = (spans_fair x c d p q n.0 j).adds_up in
      ap (before figures) whole ∙ (before_parts figures (48 * c) size ∙ ap (λ (k : ℕ). before figures (48 * c) + k) (here ∙ all))

  figures_add : NeverFall x.on → (a b u v : ℕ) → Ends x.on a b u v → (n : ℕ) → 48 * b ≤ n → before figures n ≡ v - u
  figures_add rising a b u v ends n le =
      let start : before figures (48 * a) ≡ 0 = before_zeros figures (48 * a) (λ t lt. curve.elsewhere t (λ c d p q s l. too_soon c d p q s (omega (arith, l.begun, lt)))) in
      let upto = telescope x.on (λ k. before figures (48 * k)) rising a u ends.first start span_sum b b v (omega arith) ends.last.stands in
      let rest : before (from figures (48 * b)) (n - 48 * b) ≡ 0 = before_zeros (from figures (48 * b)) (n - 48 * b) (λ t lt. curve.elsewhere (48 * b + t) (λ c d p q s l. too_late c d p q s (omega (arith, l.not_over)))) in
      let whole : n ≡ 48 * b + (n - 48 * b) = omega arith in
      ap (before figures) whole ∙ (before_parts figures (48 * b) (n - 48 * b) ∙ omega arith)
    where
      too_soon : (c d p q : ℕ) → Span x.on c d p q → c < a → ⊥
      too_soon c d p q s lt = differ (x.on c) s.first (ends.first.none_before c lt)

      too_late : (c d p q : ℕ) → Span x.on c d p q → b < d → ⊥
      too_late c d p q s lt = differ (x.on d) s.last (ends.last.none_after d lt)

  none_add : Fewer x.on → (n : ℕ) → before figures n ≡ 0
  none_add few n = before_zeros figures n (λ t lt. curve.elsewhere t (λ a b u v s l. few a b u v s.forward s.first s.last))

module _ (on : ℕ → Option ℕ) (energy : ℕ → ℕ) (told : Energies on energy) where
  -- on the days of a span after its first no other begins
  energy_sum : (c d p q : ℕ) → Span on c d p q → before energy d ≡ before energy c + (q - p)
  energy_sum c d p q s =
      let size = d - (c + 1) in
      let whole : d ≡ c + (1 + size) = omega (arith, s.forward) in
      let inner : before (from energy (c + 1)) size ≡ 0 = before_zeros (from energy (c + 1)) size (λ i lt. told.of_none (c + 1 + i) (λ b u v r. differ (on (c + 1 + i)) r.first (s.none_between (c + 1 + i) (omega arith) (omega arith)))) in
      let parts = before_parts energy (c + 1) size in
      let first = before_parts energy c 1 in
      let at : before (from energy c) 1 ≡ q - p = one_place (from energy c) ∙ (ap energy (let k : c + 0 ≡ c = omega arith in k) ∙ told.of_span c d p q s) in
      let whole' : d ≡ c + 1 + size = omega arith in
      ap (before energy) whole' ∙ omega arith

  energies_add : NeverFall on → (a b u v : ℕ) → Ends on a b u v → (n : ℕ) → b ≤ n → before energy n ≡ v - u
  energies_add rising a b u v ends n le =
      let start : before energy a ≡ 0 = before_zeros energy a (λ t lt. told.of_none t (λ d p q s. differ (on t) s.first (ends.first.none_before t lt))) in
      let upto = telescope on (before energy) rising a u ends.first start energy_sum b b v (omega arith) ends.last.stands in
      let rest : before (from energy b) (n - b) ≡ 0 = before_zeros (from energy b) (n - b) (λ t lt. told.of_none (b + t) (λ d p q s. differ (on d) s.last (ends.last.none_after d (omega (arith, s.forward))))) in
      let whole : n ≡ b + (n - b) = omega arith in
      ap (before energy) whole ∙ (before_parts energy b (n - b) ∙ omega arith)

pub adds_up : AddsUp
adds_up = record {
  spans = λ on energy rising told a b u v ends n le. energies_add on energy told rising a b u v ends n le;
  figures = λ x figures rising curve a b u v ends n le. figures_add x figures curve rising a b u v ends n le;
  nothing = λ x figures curve few n. none_add x figures curve few n;
}
