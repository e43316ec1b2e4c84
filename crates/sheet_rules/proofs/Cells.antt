-- Pieces joined to the cells of a table, place by place and span by span. Assumes nothing.
use Rattle.std.proofs.Common.{◌≡◌, ℕ, ◌+◌, ◌-◌, ◌*◌, ◌^◌, ◌<◌, ◌≤◌, Bool, true, false, cond, eqb, ◌⊎◌, List, length, get_or, set, Some, None, Option, sym, refl, ap, ◌∙◌, subst, inl, inr, ⊎_elim, mul-le-mul_right, add-mul, one-mul, arith, get_or-set_other, get_or-set_same}
use Rattle.std.proofs.lemmas.Bool.{cases_lt, cases_eq, cases_order, cond-true, cond-false, eq-eqb, ne_eqb}
use Rattle.sharing.specs.Shares.{before, figure}
use Rattle.span_rules.specs.Spans.{Span, Lies}
use Rattle.span_rules.specs.Days.{Metering, from}
use Rattle.span_rules.specs.Anomalies.{FirstAnomaly}
use Rattle.span_rules.specs.Figures.{Judged, figure_in}
use Rattle.span_rules.proofs.Tracks.{one}
use Rattle.spans.specs.declared.DialSpan.{DialSpan}
use Rattle.spans.specs.Finding.{Found, Begins}
use Rattle.sheet_rules.specs.Rows.{Row}
use Rattle.sheet_rules.specs.Drawing.{Room, JoinedOut, with_piece, SpanDrawn, DialDrawn}

-- a row ends before the next begins
pub row_before : (a b h : ℕ) → a < b → a * h + h ≤ b * h
row_before a b h lt =
    let le : (a + 1) * h ≤ b * h = mul-le-mul_right h (let k : a + 1 ≤ b = omega arith in k) in
    let is : (a + 1) * h ≡ a * h + h = add-mul a 1 h ∙ ap (λ (z : ℕ). a * h + z) (one-mul h) in
    omega arith

module _ {K X : Type 0} (holds : K → X) (size : X → ℕ) (piece : ℕ → ℕ → X) (joined : X → X → X) where
  -- the cells before half-hour t have their pieces
  pub record SoJoined (e s : ℕ) (w : ℕ → ℕ) (first end dial base t : ℕ) (old new : List K) : Type 0 where
    pub here : e ≤ 999999999 → 0 < s → s ≤ 1680000000 → s ≡ before (from w first) (end - first) → 1 ≤ dial → dial ≤ 2 → (i : ℕ) → i < t - first → (d : K)
        → Room (size (holds (get_or old (base + (first + i)) d))) → holds (get_or new (base + (first + i)) d) ≡ joined (holds (get_or old (base + (first + i)) d)) (piece (figure e (from w first) (end - first) i) dial)
    pub other : (p : ℕ) → (p < base + first) ⊎ (base + t ≤ p) → (d : K) → get_or new p d ≡ get_or old p d

  pub so_joined_none : (e s : ℕ) (w : ℕ → ℕ) (first end dial base : ℕ) (old : List K) → SoJoined e s w first end dial base first old old
  so_joined_none e s w first end dial base old = record { here = λ _ _ _ _ _ _ i lt. absurd (omega arith); other = λ p out d. refl }

  pub so_joined_more : (e s : ℕ) (w : ℕ → ℕ) (first end dial base t : ℕ) (old new : List K) (v : K) → first ≤ t → base + t < length new
      → (e ≤ 999999999 → 0 < s → s ≤ 1680000000 → s ≡ before (from w first) (end - first) → 1 ≤ dial → dial ≤ 2 → (d : K) → Room (size (holds (get_or old (base + t) d))) → holds v ≡ joined (holds (get_or old (base + t) d)) (piece (figure e (from w first) (end - first) (t - first)) dial))
      → SoJoined e s w first end dial base t old new → SoJoined e s w first end dial base (t + 1) old (set new (base + t) v)
  so_joined_more e s w first end dial base t old new v lo room is was = record {
    here = λ small some light whole least most i lt d space.
        ⊎_elim {C = holds (get_or (set new (base + t) v) (base + (first + i)) d) ≡ joined (holds (get_or old (base + (first + i)) d)) (piece (figure e (from w first) (end - first) i) dial)}
        (λ (early : i < t - first). ap holds (get_or-set_other new (base + t) (base + (first + i)) v d (λ same. omega arith)) ∙ was.here small some light whole least most i early d space)
        (λ (late : t - first ≤ i).
        let same : i ≡ t - first = omega arith in
        let at : base + (first + i) ≡ base + t = omega arith in
        ap (λ (p : ℕ). holds (get_or (set new (base + t) v) p d)) at
        ∙ (ap holds (get_or-set_same new (base + t) v d room)
        ∙ (is small some light whole least most d (subst (λ (p : ℕ). Room (size (holds (get_or old p d)))) at space)
        ∙ (ap (λ (p : ℕ). joined (holds (get_or old p d)) (piece (figure e (from w first) (end - first) (t - first)) dial)) (sym at) ∙ ap (λ (k : ℕ). joined (holds (get_or old (base + (first + i)) d)) (piece (figure e (from w first) (end - first) k) dial)) (sym same)))))
        (cases_lt i (t - first));
    other = λ p out d.
        get_or-set_other new (base + t) p v d (λ same. ⊎_elim {C = ⊥} (λ (h : p < base + first). omega arith) (λ (h : base + (t + 1) ≤ p). omega arith) out)
        ∙ was.other p (⊎_elim {C = (p < base + first) ⊎ (base + t ≤ p)} (λ (h : p < base + first). inl h) (λ (h : base + (t + 1) ≤ p). inr (omega arith)) out) d;
  }

  pub all_joined : (e s : ℕ) (w : ℕ → ℕ) (first end dial base : ℕ) (old new : List K) → SoJoined e s w first end dial base end old new → JoinedOut holds size piece joined e s w first end dial base old new
  all_joined e s w first end dial base old new h = record { here = h.here; other = h.other }

  module _ (parties rows hs : ℕ) (x : Metering) where
    -- nothing was drawn, since the row is none of the table's
    pub no_row : (a b e q : ℕ) (cells : List K) (k : Option ℕ) → FirstAnomaly x a b e k → Row parties x a b k q → rows ≤ q → ((n : Option ℕ) (p : ℕ) → FirstAnomaly x a b e n → Row parties x a b n p → p ≡ q) → SpanDrawn holds size piece joined parties rows hs x a b e cells cells
    no_row a b e q cells k first row past same = record {
      here = λ n p f z lt. absurd (omega (arith, same n p f z));
      other = λ t lt out r row d. refl;
      past = λ p le d. refl;
    }

    -- the cells of a span's row
    pub row_drawn : (a b e s q : ℕ) (w : ℕ → ℕ) (old new : List K) → a < b → 48 * b ≤ hs → q < rows → 0 < s → s ≤ 1680000000 → s ≡ before (from w (48 * a)) (48 * b - 48 * a) → 1 ≤ x.dial → x.dial ≤ 2
        → ((n : Option ℕ) (p : ℕ) → FirstAnomaly x a b e n → Row parties x a b n p → p ≡ q)
        → ((n : Option ℕ) → FirstAnomaly x a b e n → (i : ℕ) → i < 48 * b - 48 * a → figure e (from w (48 * a)) (48 * b - 48 * a) i ≡ figure_in x a b e n (48 * a + i))
        → JoinedOut holds size piece joined e s w (48 * a) (48 * b) x.dial (q * hs) old new → SpanDrawn holds size piece joined parties rows hs x a b e old new
    row_drawn a b e s q w old new lt within under some light whole least most same figures h = record {
      here = λ n p first row pr small t lies r rr d space. inside n p first row small t lies r rr d space (cases_eq q r);
      other = λ t half out r rr d. outside t half out r d;
      past = λ p le d. h.other p (inr (omega (arith, row_before q rows hs under))) d;
    }
      where
        -- another row's cells lie elsewhere
        apart : (t r : ℕ) → t < hs → (q ≡ r → ⊥) → (r * hs + t < q * hs + 48 * a) ⊎ (q * hs + 48 * b ≤ r * hs + t)
        apart t r half ne =
            ⊎_elim {C = (r * hs + t < q * hs + 48 * a) ⊎ (q * hs + 48 * b ≤ r * hs + t)}
            (λ (e : q ≡ r). absurd (ne e))
            (λ (o : (q < r) ⊎ (r < q)). ⊎_elim {C = (r * hs + t < q * hs + 48 * a) ⊎ (q * hs + 48 * b ≤ r * hs + t)} (λ (l : q < r). inr (omega (arith, row_before q r hs l))) (λ (l : r < q). inl (omega (arith, row_before r q hs l))) o)
            (cases_order q r)

        inside : (n : Option ℕ) (p : ℕ) → FirstAnomaly x a b e n → Row parties x a b n p → e ≤ 999999999 → (t : ℕ) → Lies a b t → (r : ℕ) → r < rows → (d : K) → Room (size (holds (get_or old (r * hs + t) d))) → (q ≡ r) ⊎ (q ≡ r → ⊥)
            → holds (get_or new (r * hs + t) d) ≡ with_piece joined (piece (figure_in x a b e n t) x.dial) p r (holds (get_or old (r * hs + t) d))
        inside n p first row small t lies r rr d space (inl eq) =
            let i = t - 48 * a in
            let at : 48 * a + i ≡ t = omega (arith, lies.begun) in
            let place : q * hs + (48 * a + i) ≡ r * hs + t = ap (λ (z : ℕ). q * hs + z) at ∙ ap (λ (z : ℕ). z * hs + t) eq in
            let hi = lies.not_over in
            ap (λ (z : ℕ). holds (get_or new z d)) (sym place)
            ∙ (h.here small some light whole least most i (omega arith) d (subst (λ (z : ℕ). Room (size (holds (get_or old z d)))) (sym place) space)
            ∙ (ap (λ (z : ℕ). joined (holds (get_or old z d)) (piece (figure e (from w (48 * a)) (48 * b - 48 * a) i) x.dial)) place
            ∙ (ap (λ (z : ℕ). joined (holds (get_or old (r * hs + t) d)) (piece z x.dial)) (figures n first i (omega arith) ∙ ap (figure_in x a b e n) at)
            ∙ sym (cond-true _ _ _ (eq-eqb p r (same n p first row ∙ eq))))))
        inside n p first row small t lies r rr d space (inr ne) =
            ap holds (h.other (r * hs + t) (apart t r (omega (arith, lies.not_over)) ne) d) ∙ sym (cond-false _ _ _ (ne_eqb p r (λ k. ne (sym (same n p first row) ∙ k))))

        outside : (t : ℕ) → t < hs → (Lies a b t → ⊥) → (r : ℕ) (d : K) → get_or new (r * hs + t) d ≡ get_or old (r * hs + t) d
        outside t half out r d =
            ⊎_elim {C = get_or new (r * hs + t) d ≡ get_or old (r * hs + t) d}
            (λ (e : q ≡ r).
            let base : q * hs ≡ r * hs = ap (λ (z : ℕ). z * hs) e in
            h.other (r * hs + t) (⊎_elim {C = (r * hs + t < q * hs + 48 * a) ⊎ (q * hs + 48 * b ≤ r * hs + t)} (λ (early : t < 48 * a). inl (omega arith))
            (λ (lo : 48 * a ≤ t). ⊎_elim {C = (r * hs + t < q * hs + 48 * a) ⊎ (q * hs + 48 * b ≤ r * hs + t)} (λ (hi : t < 48 * b). absurd (out (record { begun = lo; not_over = hi }))) (λ (late : 48 * b ≤ t). inr (omega arith)) (cases_lt t (48 * b))) (cases_lt t (48 * a))) d)
            (λ (ne : q ≡ r → ⊥). h.other (r * hs + t) (apart t r half ne) d)
            (cases_eq q r)

    module _ (days : ℕ) where
      pub dial_none : (cells : List K) → DialDrawn holds size piece joined parties rows hs x days 0 cells cells
      dial_none cells = record {
        in_spans = λ a b u v j q judged lt. absurd (omega arith);
        elsewhere = λ t half none r row d. refl;
        past = λ p le d. refl;
      }

      -- a day on which no span begins
      pub dial_same : (n : ℕ) (old new : List K) → Begins x.on days n None → DialDrawn holds size piece joined parties rows hs x days n old new → DialDrawn holds size piece joined parties rows hs x days (n + 1) old new
      dial_same n old new none was = record {
        in_spans = λ a b u v j q judged lt le small row under t lies r rr d space.
            ⊎_elim {C = holds (get_or new (r * hs + t) d) ≡ with_piece joined (piece (figure_in x a b (v - u) j t) x.dial) q r (holds (get_or old (r * hs + t) d))}
            (λ (early : a < n). was.in_spans a b u v j q judged early le small row under t lies r rr d space)
            (λ (late : n ≤ a). let same : a ≡ n = omega arith in absurd (none b u v le (subst (λ (k : ℕ). Span x.on k b u v) same judged.span)))
            (cases_lt a n);
        elsewhere = λ t half no r row d. was.elsewhere t half (λ a b u v s early le lies. no a b u v s (omega arith) le lies) r row d;
        past = was.past;
      }

      -- a day on which a span begins, and its pieces are joined
      pub dial_more : (n : ℕ) (s : DialSpan) (old mid new : List K) → 48 * days ≤ hs → Found x.on days n s → SpanDrawn holds size piece joined parties rows hs x s.from s.to s.energy mid new → DialDrawn holds size piece joined parties rows hs x days n old mid → DialDrawn holds size piece joined parties rows hs x days (n + 1) old new
      dial_more n s old mid new fits found h was = record {
        in_spans = λ a b u v j q judged lt le small row under t lies r rr d space.
            ⊎_elim {C = holds (get_or new (r * hs + t) d) ≡ with_piece joined (piece (figure_in x a b (v - u) j t) x.dial) q r (holds (get_or old (r * hs + t) d))}
            (λ (early : a < n).
            ap holds (h.other t (omega (arith, lies.not_over)) (λ here. apart a b u v judged.span t lies here early) r rr d) ∙ was.in_spans a b u v j q judged early le small row under t lies r rr d space)
            (λ (late : n ≤ a). this a b u v j q judged small row under t lies r rr d space (let same : a ≡ s.from = omega (arith, found.begins) in same))
            (cases_lt a n);
        elsewhere = λ t half no r row d.
            h.other t half (λ here. no s.from s.to found.u found.v found.span (omega (arith, found.begins)) found.within here) r row d
            ∙ was.elsewhere t half (λ a b u v z early le lies. no a b u v z (omega arith) le lies) r row d;
        past = λ p le d. h.past p le d ∙ was.past p le d;
      }
        where
          apart : (a b u v : ℕ) → Span x.on a b u v → (t : ℕ) → Lies a b t → Lies s.from s.to t → a < n → ⊥
          apart a b u v z t lies here early = omega (arith, (one x.on t a b u v s.from s.to found.u found.v z lies found.span here).0, found.begins)

          -- the cell was not touched by an earlier span
          untouched : (t : ℕ) → Lies s.from s.to t → (r : ℕ) → r < rows → (d : K) → get_or mid (r * hs + t) d ≡ get_or old (r * hs + t) d
          untouched t here r rr d = was.elsewhere t (omega (arith, here.not_over, found.within)) (λ a b u v z early le lies. apart a b u v z t lies here early) r rr d

          this : (a b u v : ℕ) (j : Option ℕ) (q : ℕ) → Judged x a b u v j → v ≤ 999999999 → Row parties x a b j q → q < rows → (t : ℕ) → Lies a b t → (r : ℕ) → r < rows → (d : K) → Room (size (holds (get_or old (r * hs + t) d))) → a ≡ s.from
              → holds (get_or new (r * hs + t) d) ≡ with_piece joined (piece (figure_in x a b (v - u) j t) x.dial) q r (holds (get_or old (r * hs + t) d))
          this a b u v j q judged small row under t lies r rr d space same =
              let z : Span x.on s.from b u v = subst (λ (k : ℕ). Span x.on k b u v) same judged.span in
              let vals = one x.on (48 * s.from) s.from b u v s.from s.to found.u found.v z (record { begun = omega arith; not_over = omega (arith, z.forward) }) found.span (record { begun = omega arith; not_over = omega (arith, found.span.forward) }) in
              let ends : b ≡ s.to = vals.1 in
              let energy : s.energy ≡ v - u = omega (arith, found.energy, vals.2, vals.3) in
              let first : FirstAnomaly x s.from s.to s.energy j =
              subst (λ (k : ℕ). FirstAnomaly x s.from s.to k j) (sym energy) (subst (λ (k : ℕ). FirstAnomaly x s.from k (v - u) j) ends (subst (λ (k : ℕ). FirstAnomaly x k b (v - u) j) same judged.first)) in
              let its_row : Row parties x s.from s.to j q = subst (λ (k : ℕ). Row parties x s.from k j q) ends (subst (λ (k : ℕ). Row parties x k b j q) same row) in
              let here : Lies s.from s.to t = subst (λ (k : ℕ). Lies s.from k t) ends (subst (λ (k : ℕ). Lies k b t) same lies) in
              let kept = untouched t here r rr d in
              let figure_same : figure_in x s.from s.to s.energy j t ≡ figure_in x a b (v - u) j t =
              ap (λ (k : ℕ). figure_in x s.from s.to k j t) energy ∙ (ap (λ (k : ℕ). figure_in x s.from k (v - u) j t) (sym ends) ∙ ap (λ (k : ℕ). figure_in x k b (v - u) j t) (sym same)) in
              h.here j q first its_row under (omega arith) t here r rr d (subst (λ (y : K). Room (size (holds y))) (sym kept) space)
              ∙ (ap (λ (y : K). with_piece joined (piece (figure_in x s.from s.to s.energy j t) x.dial) q r (holds y)) kept
              ∙ ap (λ (k : ℕ). with_piece joined (piece k x.dial) q r (holds (get_or old (r * hs + t) d))) figure_same)
