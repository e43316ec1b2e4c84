-- Where a dial has a piece at a half-hour, and its figure there. Assumes nothing.
use Rattle.std.proofs.Common.{◌≡◌, ℕ, zero, suc, ◌+◌, ◌-◌, ◌*◌, ◌/◌, ◌<◌, ◌≤◌, ◌⊎◌, Some, None, Option, sym, refl, ap, ◌∙◌, subst, inl, inr, ⊎_elim, arith}
use Rattle.std.proofs.lemmas.Bool.{cases_lt, cases_eq, cases_order}
use Rattle.sharing.specs.Shares.{before}
use Rattle.book_rules.specs.declared.Situation.{Situation}
use Rattle.span_rules.specs.Lasts.{last_before}
use Rattle.span_rules.specs.Spans.{Span, Lies, FirstIndex, LastIndex, Ends, Fewer}
use Rattle.span_rules.specs.Days.{Metering, serving}
use Rattle.span_rules.specs.Anomalies.{Holds, no_situation, several, no_dial, zero_weight, extreme_factor, FirstAnomaly}
use Rattle.span_rules.specs.Figures.{Judged, figure_in, CurveOf}
use Rattle.span_rules.specs.Laws.{Around}
use Rattle.span_rules.proofs.Lasts.{Latest, latest_by, last_empty}
use Rattle.span_rules.proofs.Serving.{covering}
use Rattle.span_rules.proofs.Judging.{one_judgement}
use Rattle.span_rules.proofs.Tracks.{differ, next, around_by, one}
use Rattle.span_rules.proofs.Curves.{figure_in_is, spans_fair, adds_up}
use Rattle.span_rules.proofs.Steps.{Tracked}
use Rattle.spans.specs.Judging.{Throughout}
use Rattle.sheet_rules.specs.Rows.{Row, InCell}
use Rattle.sheet_rules.specs.Account.{Counted}

-- the days of a span without anomaly lie in one situation
pub one_situation : (x : Metering) (a b e : ℕ) → a < b → FirstAnomaly x a b e None → (c : ℕ) × (y : Situation) × Throughout x.starting a b c y
one_situation x a b e lt first = at_first (serving x.starting a) refl
  where
    same : (c p : ℕ) (y z : Situation) (d : ℕ) → a ≤ d → d < b → serving x.starting a ≡ Some (c, y) → serving x.starting d ≡ Some (p, z) → serving x.starting d ≡ Some (c, y)
    same c p y z d lo hi s t =
        ⊎_elim {C = serving x.starting d ≡ Some (c, y)}
        (λ (q : c ≡ p).
        let one_y : x.starting c ≡ Some y = (covering.covers x.starting a c y s).starts in
        let one_z : x.starting p ≡ Some z = (covering.covers x.starting d p z t).starts in
        let eq : y ≡ z = equal (x.starting c) y z one_y (ap x.starting q ∙ one_z) in
        t ∙ (ap (λ (k : ℕ). Some (k, z)) (sym q) ∙ ap (λ (k : Situation). Some (c, k)) (sym eq)))
        (λ (n : c ≡ p → ⊥). absurd (first 2 (several a d c p y z (omega arith) lt lo hi s t n)))
        (cases_eq c p)
      where
        equal : (o : Option Situation) (v w : Situation) → o ≡ Some v → o ≡ Some w → v ≡ w
        equal o v w h k = cc

    each : (c : ℕ) (y : Situation) → serving x.starting a ≡ Some (c, y) → (d : ℕ) → a ≤ d → d < b → (o : Option (ℕ × Situation)) → serving x.starting d ≡ o → serving x.starting d ≡ Some (c, y)
    each c y s d lo hi None t = absurd (first 1 (no_situation d lo hi t))
    each c y s d lo hi (Some v) t = same c v.0 y v.1 d lo hi s t

    at_first : (o : Option (ℕ × Situation)) → serving x.starting a ≡ o → (c : ℕ) × (y : Situation) × Throughout x.starting a b c y
    at_first None s = absurd (first 1 (no_situation a (omega arith) lt s))
    at_first (Some v) s = (v.0, v.1, λ d lo hi. each v.0 v.1 s d lo hi (serving x.starting d) refl)

module _ (parties days : ℕ) (x : Metering) (track : Tracked days x.on) where
  -- a span around a half-hour, or none
  around_or_not : (t : ℕ) → Around x.on t ⊎ (Around x.on t → ⊥)
  around_or_not t = by (last_before x.on (t / 48 + 1)) refl (last_before x.on (days + 1)) refl
    where
      by : (o : Option (ℕ × ℕ)) → last_before x.on (t / 48 + 1) ≡ o → (p : Option (ℕ × ℕ)) → last_before x.on (days + 1) ≡ p → Around x.on t ⊎ (Around x.on t → ⊥)
      by None e p q = inr (λ h. differ (x.on h.a) h.span.first (last_empty x.on (t / 48 + 1) e h.a (omega (arith, h.lies.begun))))
      by (Some o) e None q = inr (λ h. differ (x.on h.b) h.span.last (last_empty x.on (days + 1) q h.b (omega (arith, track.within h.b h.v h.span.last))))
      by (Some o) e (Some p) q =
          let l = latest_by x.on (days + 1) p q in
          ⊎_elim {C = Around x.on t ⊎ (Around x.on t → ⊥)}
          (λ (past : t / 48 < p.0). inl (around_by x.on t o (latest_by x.on (t / 48 + 1) o e) (next x.on (p.0 - (t / 48 + 1)) (t / 48) p.1 (ap x.on (let k : t / 48 + 1 + (p.0 - (t / 48 + 1)) ≡ p.0 = omega arith in k) ∙ l.stands))))
          (λ (short : p.0 ≤ t / 48). inr (λ h. differ (x.on h.b) h.span.last (l.none_later h.b (omega (arith, h.lies.not_over)) (omega (arith, track.within h.b h.v h.span.last)))))
          (cases_lt (t / 48) p.0)

  row_for : (a b e : ℕ) → a < b → (n : Option ℕ) → FirstAnomaly x a b e n → (r : ℕ) × Row parties x a b n r
  row_for a b e lt None first = let s = one_situation x a b e lt first in (s.1.terms.party, (s.0, s.1, s.2, refl))
  row_for a b e lt (Some n) first = (parties + n - 1, refl)

  -- the row and the piece there, or none
  abbrev pub There : ℕ → Type 0
  There t = ((r : ℕ) × InCell parties x r t) ⊎ ((r : ℕ) → InCell parties x r t → ⊥)

  -- a span has a piece in one of the rows
  pub in_some_row : (a b u v : ℕ) (n : Option ℕ) → Judged x a b u v n → (t : ℕ) → Lies a b t → (r : ℕ) × InCell parties x r t
  in_some_row a b u v n judged t lies =
      let r = row_for a b (v - u) judged.span.forward n judged.first in
      (r.0, record { a = a; b = b; u = u; v = v; n = n; judged = judged; lies = lies; row = r.1 })

  there_by : (t : ℕ) → Around x.on t ⊎ (Around x.on t → ⊥) → There t
  there_by t (inl h) =
      let n = one_judgement.some x h.a h.b (h.v - h.u) in
      inl (in_some_row h.a h.b h.u h.v n.0 (record { span = h.span; first = n.1 }) t h.lies)
  there_by t (inr n) = inr (λ r h. n (record { a = h.a; b = h.b; u = h.u; v = h.v; span = h.judged.span; lies = h.lies }))

  there : (t : ℕ) → There t
  there t = there_by t (around_or_not t)

  -- of one half-hour the span, its anomaly and its row are one
  pub record SamePiece (t r q : ℕ) (h : InCell parties x r t) (k : InCell parties x q t) : Type 0 where
    pub rows : r ≡ q
    pub figures : figure_in x h.a h.b (h.v - h.u) h.n t ≡ figure_in x k.a k.b (k.v - k.u) k.n t

  same_row : (a b : ℕ) → a < b → (n : Option ℕ) (r q : ℕ) → Row parties x a b n r → Row parties x a b n q → r ≡ q
  same_row a b lt None r q h k =
      let s : serving x.starting a ≡ Some (h.0, h.1) = h.2 a (omega arith) lt in
      let t : serving x.starting a ≡ Some (k.0, k.1) = k.2 a (omega arith) lt in
      sym h.3 ∙ (ap (λ (v : ℕ × Situation). v.1.terms.party) (pair s t) ∙ k.3)
    where
      pair : {v w : ℕ × Situation} → serving x.starting a ≡ Some v → serving x.starting a ≡ Some w → v ≡ w
      pair s t = cc
  same_row a b lt (Some n) r q h k = h ∙ sym k

  pub same_piece : (t r q : ℕ) (h : InCell parties x r t) (k : InCell parties x q t) → SamePiece t r q h k
  same_piece t r q h k =
      let s = one x.on t h.a h.b h.u h.v k.a k.b k.u k.v h.judged.span h.lies k.judged.span k.lies in
      let energy : h.v - h.u ≡ k.v - k.u = omega (arith, s.2, s.3) in
      let first : FirstAnomaly x h.a h.b (h.v - h.u) k.n =
      subst (λ (z : ℕ). FirstAnomaly x h.a h.b z k.n) (sym energy) (subst (λ (z : ℕ). FirstAnomaly x h.a z (k.v - k.u) k.n) (sym s.1) (subst (λ (z : ℕ). FirstAnomaly x z k.b (k.v - k.u) k.n) (sym s.0) k.judged.first)) in
      let judged : h.n ≡ k.n = one_judgement.once x h.a h.b (h.v - h.u) h.n k.n h.judged.first first in
      record {
        rows = same_row h.a h.b h.judged.span.forward h.n r q h.row
            (subst (λ (o : Option ℕ). Row parties x h.a h.b o q) (sym judged) (subst (λ (z : ℕ). Row parties x h.a z k.n q) (sym s.1) (subst (λ (z : ℕ). Row parties x z k.b k.n q) (sym s.0) k.row)));
        figures = ap (λ (z : ℕ). figure_in x z h.b (h.v - h.u) h.n t) s.0
            ∙ (ap (λ (z : ℕ). figure_in x k.a z (h.v - h.u) h.n t) s.1 ∙ (ap (λ (z : ℕ). figure_in x k.a k.b z h.n t) energy ∙ ap (λ (o : Option ℕ). figure_in x k.a k.b (k.v - k.u) o t) judged));
      }

  figure_by : (t : ℕ) → There t → ℕ
  figure_by t (inl h) = figure_in x h.1.a h.1.b (h.1.v - h.1.u) h.1.n t
  figure_by t (inr n) = 0

  place_by : (t : ℕ) → There t → Option (ℕ × ℕ)
  place_by t (inl h) = Some (h.0, figure_in x h.1.a h.1.b (h.1.v - h.1.u) h.1.n t)
  place_by t (inr n) = None

  -- the figure of a half-hour, 0 outside spans
  pub figure_at : ℕ → ℕ
  figure_at t = figure_by t (there t)

  -- the row of a half-hour's piece with its figure, if there is one
  pub place : ℕ → Option (ℕ × ℕ)
  place t = place_by t (there t)

  -- what is told of a place is so
  pub placed : (t r e : ℕ) → place t ≡ Some (r, e) → InCell parties x r t × (e ≡ figure_at t)
  unfolding place figure_at place_by figure_by
  placed t r e = by (there t)
    where
      pair : {p q : ℕ × ℕ} → Some p ≡ Some q → p ≡ q
      pair h = cc

      by : (h : There t) → place_by t h ≡ Some (r, e) → InCell parties x r t × (e ≡ figure_by t h)
      by (inl h) k = let same = pair k in (subst (λ (z : ℕ). InCell parties x z t) (ap (λ (v : ℕ × ℕ). v.0) same) h.1, sym (ap (λ (v : ℕ × ℕ). v.1) same))
      by (inr n) k = let z : ◌≡◌ {A = ℕ} 0 1 = cc in absurd (omega arith)

  pub is_placed : (t r : ℕ) → InCell parties x r t → place t ≡ Some (r, figure_at t)
  unfolding place figure_at place_by figure_by
  is_placed t r k = by (there t)
    where
      by : (h : There t) → place_by t h ≡ Some (r, figure_by t h)
      by (inl h) = ap (λ (z : ℕ). Some (z, figure_in x h.1.a h.1.b (h.1.v - h.1.u) h.1.n t)) (same_piece t h.0 r h.1 k).rows
      by (inr n) = absurd (n r k)

  pub nowhere : (t : ℕ) → place t ≡ None → figure_at t ≡ 0
  unfolding place figure_at place_by figure_by
  nowhere t = by (there t)
    where
      by : (h : There t) → place_by t h ≡ None → figure_by t h ≡ 0
      by (inl h) k = let z : ◌≡◌ {A = ℕ} 0 1 = cc in absurd (omega arith)
      by (inr n) k = refl

  -- the figures are the curve of the dial, the only one
  pub curve_at : CurveOf x figure_at
  unfolding figure_at figure_by in_some_row
  curve_at = record {
    in_spans = λ a b u v n judged t lies. inside a b u v n judged t lies (there t);
    elsewhere = λ t none. outside t none (there t);
  }
    where
      inside : (a b u v : ℕ) (n : Option ℕ) → Judged x a b u v n → (t : ℕ) → Lies a b t → (h : There t) → figure_by t h ≡ figure_in x a b (v - u) n t
      inside a b u v n judged t lies (inl h) = let k = in_some_row a b u v n judged t lies in (same_piece t h.0 k.0 h.1 k.1).figures
      inside a b u v n judged t lies (inr none) = let k = in_some_row a b u v n judged t lies in absurd (none k.0 k.1)

      outside : (t : ℕ) → ((a b u v : ℕ) → Span x.on a b u v → Lies a b t → ⊥) → (h : There t) → figure_by t h ≡ 0
      outside t none (inl h) = absurd (none h.1.a h.1.b h.1.u h.1.v h.1.judged.span h.1.lies)
      outside t none (inr n) = refl

  pub same_figures : (f : ℕ → ℕ) → CurveOf x f → (t : ℕ) → f t ≡ figure_at t
  unfolding figure_at figure_by
  same_figures f curve t = by (there t)
    where
      by : (h : There t) → f t ≡ figure_by t h
      by (inl h) = curve.in_spans h.1.a h.1.b h.1.u h.1.v h.1.n h.1.judged t h.1.lies
      by (inr none) = curve.elsewhere t (λ a b u v s l. let n = one_judgement.some x a b (v - u) in let k = in_some_row a b u v n.0 (record { span = s; first = n.1 }) t l in none k.0 k.1)

  -- a figure is no larger than an index can be
  pub figure_small : (t : ℕ) → figure_at t ≤ 999999999
  unfolding figure_at figure_by
  figure_small t = by (there t)
    where
      by : (h : There t) → figure_by t h ≤ 999999999
      by (inl h) =
          let k = h.1 in
          let i = t - 48 * k.a in
          let at : 48 * k.a + i ≡ t = omega (arith, k.lies.begun) in
          let fair = spans_fair x k.a k.b k.u k.v k.n k.judged in
          let le = fair.at_most i (omega (arith, k.lies.not_over)) in
          let is = ap (figure_in x k.a k.b (k.v - k.u) k.n) (sym at) ∙ figure_in_is x k.a k.b (k.v - k.u) k.n i in
          omega (arith, track.bounded k.b k.v k.judged.span.last)
      by (inr n) = omega arith

  -- the row is one of the sheet's
  numbered : {a b e n : ℕ} → Holds x a b e n → (1 ≤ n) × (n ≤ 5)
  numbered (no_situation d p q r) = (omega arith, omega arith)
  numbered (several c d p q y z ac cb ad db sc sd ne) = (omega arith, omega arith)
  numbered (no_dial d c y ad db s l) = (omega arith, omega arith)
  numbered (zero_weight h) = (omega arith, omega arith)
  numbered (extreme_factor d c p y ad db s u g) = (omega arith, omega arith)

  row_bound : ((c : ℕ) (y : Situation) → x.starting c ≡ Some y → y.terms.party < parties) → (a b e : ℕ) → a < b → (n : Option ℕ) (r : ℕ) → FirstAnomaly x a b e n → Row parties x a b n r → r < parties + 5
  row_bound known a b e lt None r first row = omega (arith, row.3, known row.0 row.1 (covering.covers x.starting a row.0 row.1 (row.2 a (omega arith) lt)).starts)
  row_bound known a b e lt (Some n) r first row = let k = numbered first.0 in omega (arith, k.0, k.1)

  pub row_within : ((c : ℕ) (y : Situation) → x.starting c ≡ Some y → y.terms.party < parties) → (r t : ℕ) → InCell parties x r t → r < parties + 5
  row_within known r t h = row_bound known h.a h.b (h.v - h.u) h.judged.span.forward h.n r h.judged.first h.row

  -- the first index, or none before day n
  first_or_none : (n : ℕ) → ((a : ℕ) × (u : ℕ) × FirstIndex x.on a u) ⊎ ((d : ℕ) → d < n → x.on d ≡ None)
  first_or_none zero = inr (λ d lt. absurd (omega arith))
  first_or_none (suc n) =
      ⊎_elim {C = ((a : ℕ) × (u : ℕ) × FirstIndex x.on a u) ⊎ ((d : ℕ) → d < suc n → x.on d ≡ None)}
      (λ (h : (a : ℕ) × (u : ℕ) × FirstIndex x.on a u). inl h)
      (λ (none : (d : ℕ) → d < n → x.on d ≡ None). by none (x.on n) refl)
      (first_or_none n)
    where
      by : ((d : ℕ) → d < n → x.on d ≡ None) → (o : Option ℕ) → x.on n ≡ o → ((a : ℕ) × (u : ℕ) × FirstIndex x.on a u) ⊎ ((d : ℕ) → d < suc n → x.on d ≡ None)
      by none None e = inr (λ d lt. ⊎_elim {C = x.on d ≡ None} (λ (k : d < n). none d k) (λ (k : n ≤ d). let same : d ≡ n = omega arith in ap x.on same ∙ e) (cases_lt d n))
      by none (Some u) e = inl (n, u, record { stands = e; none_before = none })

  abbrev Ended : Type 0
  Ended = (a : ℕ) × (b : ℕ) × (u : ℕ) × (v : ℕ) × Ends x.on a b u v

  -- two indexes at least, or fewer
  pub ends_or_fewer : Ended ⊎ Fewer x.on
  ends_or_fewer = by (last_before x.on (days + 1)) refl (first_or_none (days + 1))
    where
      late : (p : ℕ × ℕ) → Latest x.on (days + 1) p → (d v : ℕ) → x.on d ≡ Some v → d ≤ p.0
      late p l d v e = ⊎_elim {C = d ≤ p.0} (λ (gt : p.0 < d). absurd (differ (x.on d) e (l.none_later d gt (omega (arith, track.within d v e))))) (λ (le : d ≤ p.0). le) (cases_lt p.0 d)

      by : (o : Option (ℕ × ℕ)) → last_before x.on (days + 1) ≡ o → ((a : ℕ) × (u : ℕ) × FirstIndex x.on a u) ⊎ ((d : ℕ) → d < days + 1 → x.on d ≡ None) → Ended ⊎ Fewer x.on
      by o e (inr none) = inr (λ a b u v lt p q. differ (x.on b) q (none b (omega (arith, track.within b v q))))
      by None e (inl f) = inr (λ a b u v lt p q. differ (x.on b) q (last_empty x.on (days + 1) e b (omega (arith, track.within b v q))))
      by (Some p) e (inl f) =
          let l = latest_by x.on (days + 1) p e in
          ⊎_elim {C = Ended ⊎ Fewer x.on}
          (λ (lt : f.0 < p.0). inl (f.0, p.0, f.1, p.1, record { first = f.2; last = record { stands = l.stands; none_after = λ d gt. past p l d gt (x.on d) refl }; apart = lt }))
          (λ (ge : p.0 ≤ f.0). inr (λ a b u v lt h k. let low = early f a u h in omega (arith, late p l b v k)))
          (cases_lt f.0 p.0)
        where
          past : (p : ℕ × ℕ) → Latest x.on (days + 1) p → (d : ℕ) → p.0 < d → (o : Option ℕ) → x.on d ≡ o → x.on d ≡ None
          past p l d gt None e = e
          past p l d gt (Some v) e = absurd (omega (arith, late p l d v e))

          early : (f : (a : ℕ) × (u : ℕ) × FirstIndex x.on a u) → (a u : ℕ) → x.on a ≡ Some u → f.0 ≤ a
          early f a u h = ⊎_elim {C = f.0 ≤ a} (λ (lt : a < f.0). absurd (differ (x.on a) h (f.2.none_before a lt))) (λ (le : f.0 ≤ a). le) (cases_lt a f.0)

  -- what the dial counted: there is such a number, and its figures add to it
  pub counted_some : (c : ℕ) × Counted x.on c
  counted_some =
      ⊎_elim {C = (c : ℕ) × Counted x.on c}
      (λ (h : Ended). (h.3 - h.2, record { two = λ a b u v e. same_ends h a b u v e; fewer = λ few. absurd (few h.0 h.1 h.2 h.3 h.4.apart h.4.first.stands h.4.last.stands) }))
      (λ (few : Fewer x.on). (0, record { two = λ a b u v e. absurd (few a b u v e.apart e.first.stands e.last.stands); fewer = λ _. refl }))
      ends_or_fewer
    where
      same_ends : (h : Ended) (a b u v : ℕ) → Ends x.on a b u v → h.3 - h.2 ≡ v - u
      same_ends h a b u v e =
          let first : h.0 ≡ a = at h.0 a (λ lt. differ (x.on h.0) h.4.first.stands (e.first.none_before h.0 lt)) (λ lt. differ (x.on a) e.first.stands (h.4.first.none_before a lt)) in
          let last : h.1 ≡ b = at h.1 b (λ lt. differ (x.on b) e.last.stands (h.4.last.none_after b lt)) (λ lt. differ (x.on h.1) h.4.last.stands (e.last.none_after h.1 lt)) in
          omega (arith, value h.0 a h.2 u first h.4.first.stands e.first.stands, value h.1 b h.3 v last h.4.last.stands e.last.stands)
        where
          at : (p q : ℕ) → (p < q → ⊥) → (q < p → ⊥) → p ≡ q
          at p q no_less no_more =
              ⊎_elim {C = p ≡ q} (λ (s : p ≡ q). s) (λ (s : (p < q) ⊎ (q < p)). ⊎_elim {C = p ≡ q} (λ (l : p < q). absurd (no_less l)) (λ (l : q < p). absurd (no_more l)) s) (cases_order p q)

          value : (p q y z : ℕ) → p ≡ q → x.on p ≡ Some y → x.on q ≡ Some z → y ≡ z
          value p q y z s g k = equal (x.on p) y z g (ap x.on s ∙ k)
            where
              equal : (o : Option ℕ) (y z : ℕ) → o ≡ Some y → o ≡ Some z → y ≡ z
              equal o y z i j = cc

  pub counted_figures : (c : ℕ) → Counted x.on c → before figure_at (48 * days) ≡ c
  counted_figures c counted =
      ⊎_elim {C = before figure_at (48 * days) ≡ c}
      (λ (h : Ended). adds_up.figures x figure_at track.rising curve_at h.0 h.1 h.2 h.3 h.4 (48 * days) (omega (arith, track.within h.1 h.3 h.4.last.stands)) ∙ sym (counted.two h.0 h.1 h.2 h.3 h.4))
      (λ (few : Fewer x.on). adds_up.nothing x figure_at curve_at few (48 * days) ∙ sym (counted.fewer few))
      ends_or_fewer
