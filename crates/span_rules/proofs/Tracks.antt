-- The spans of a dial against its half-hours and its indexes. Assumes nothing.
use Rattle.std.proofs.Common.{◌≡◌, ℕ, zero, suc, ◌+◌, ◌-◌, ◌*◌, ◌/◌, ◌<◌, ◌≤◌, ◌⊎◌, Some, None, Option, sym, refl, ap, ◌∙◌, subst, ⊎_elim, arith}
use Rattle.std.proofs.lemmas.Bool.{cases_lt, cases_order}
use Rattle.span_rules.specs.Lasts.{last_before}
use Rattle.span_rules.specs.Spans.{Span, Lies, FirstIndex, LastIndex, Ends, Fewer}
use Rattle.span_rules.specs.Laws.{Around, HalfHoursInSpans, NeverFall}
use Rattle.span_rules.proofs.Lasts.{Latest, latest_by, last_empty}

pub differ : {X : Type 0} {x : X} (o : Option X) → o ≡ Some x → o ≡ None → ⊥
differ o p q = let z : ◌≡◌ {A = ℕ} 0 1 = cc in omega arith

module _ (on : ℕ → Option ℕ) where
  -- the first index after day d
  pub record Next (d : ℕ) : Type 0 where
    pub day : ℕ
    pub value : ℕ
    pub later : d < day
    pub stands : on day ≡ Some value
    pub none_sooner : (c : ℕ) → d < c → c < day → on c ≡ None

  pub next : (m d v : ℕ) → on (d + 1 + m) ≡ Some v → Next d
  next zero d v h = record {
    day = d + 1;
    value = v;
    later = omega arith;
    stands = ap on (let e : d + 1 ≡ d + 1 + 0 = omega arith in e) ∙ h;
    none_sooner = λ c gt lt. absurd (omega arith);
  }
  next (suc m) d v h = by (on (d + 1)) refl (next m (d + 1) v (ap on (let e : d + 1 + 1 + m ≡ d + 1 + suc m = omega arith in e) ∙ h))
    where
      by : (o : Option ℕ) → on (d + 1) ≡ o → Next (d + 1) → Next d
      by (Some w) e n = record { day = d + 1; value = w; later = omega arith; stands = e; none_sooner = λ c gt lt. absurd (omega arith) }
      by None e n = record {
        day = n.day;
        value = n.value;
        later = omega (arith, n.later);
        stands = n.stands;
        none_sooner = λ c gt lt.
            ⊎_elim {C = on c ≡ None} (λ (b : d + 1 < c). n.none_sooner c b lt) (λ (b : c ≤ d + 1). let same : c ≡ d + 1 = omega arith in ap on same ∙ e) (cases_lt (d + 1) c);
      }

  -- the span from the last index by a day to the next one
  pub around_by : (t : ℕ) (p : ℕ × ℕ) → Latest on (t / 48 + 1) p → Next (t / 48) → Around on t
  around_by t p l n = record {
    a = p.0;
    b = n.day;
    u = p.1;
    v = n.value;
    span = record {
      forward = omega (arith, l.early, n.later);
      first = l.stands;
      last = n.stands;
      none_between = λ c gt lt.
          ⊎_elim {C = on c ≡ None} (λ (k : c < t / 48 + 1). l.none_later c gt k) (λ (k : t / 48 + 1 ≤ c). n.none_sooner c (omega arith) lt) (cases_lt c (t / 48 + 1));
    };
    lies = record { begun = omega (arith, l.early); not_over = omega (arith, n.later) };
  }

  within : (a b u v : ℕ) → Ends on a b u v → (t : ℕ) → Lies a b t → Around on t
  within a b u v ends t lies = by (last_before on (t / 48 + 1)) refl
    where
      by : (o : Option (ℕ × ℕ)) → last_before on (t / 48 + 1) ≡ o → Around on t
      by None e = absurd (differ (on a) ends.first.stands (last_empty on (t / 48 + 1) e a (omega (arith, lies.begun))))
      by (Some p) e =
          around_by t p (latest_by on (t / 48 + 1) p e)
          (next (b - (t / 48 + 1)) (t / 48) v (ap on (let q : t / 48 + 1 + (b - (t / 48 + 1)) ≡ b = omega (arith, lies.not_over) in q) ∙ ends.last.stands))

  only : (a b u v : ℕ) → Ends on a b u v → (c d p q : ℕ) → Span on c d p q → (a ≤ c) × (d ≤ b)
  only a b u v ends c d p q s = (
    ⊎_elim {C = a ≤ c} (λ (lt : c < a). absurd (differ (on c) s.first (ends.first.none_before c lt))) (λ (le : a ≤ c). le) (cases_lt c a),
    ⊎_elim {C = d ≤ b} (λ (lt : b < d). absurd (differ (on d) s.last (ends.last.none_after d lt))) (λ (le : d ≤ b). le) (cases_lt b d),
  )

  -- of two spans that share a half-hour neither begins later, nor ends sooner
  not_later : (t a b u v c d p q : ℕ) → Span on a b u v → Lies a b t → Span on c d p q → Lies c d t → a < c → ⊥
  not_later t a b u v c d p q s l r m lt = differ (on c) r.first (s.none_between c lt (omega (arith, l.not_over, m.begun)))

  not_sooner : (a b u v d p q : ℕ) → Span on a b u v → Span on a d p q → d < b → ⊥
  not_sooner a b u v d p q s r lt = differ (on d) r.last (s.none_between d r.forward lt)

  same_value : (d u p : ℕ) → on d ≡ Some u → on d ≡ Some p → u ≡ p
  same_value d u p h k = cc

  pub one : (t a b u v c d p q : ℕ) → Span on a b u v → Lies a b t → Span on c d p q → Lies c d t → (a ≡ c) × (b ≡ d) × (u ≡ p) × (v ≡ q)
  one t a b u v c d p q s l r m =
      let e : a ≡ c = by (cases_order a c) in
      let r' : Span on a d p q = subst (λ (z : ℕ). Span on z d p q) (sym e) r in
      let g : b ≡ d = to r' (cases_order b d) in (
        e,
        g,
        same_value a u p s.first r'.first,
        same_value b v q s.last (ap on g ∙ r'.last),
      )
    where
      by : (a ≡ c) ⊎ ((a < c) ⊎ (c < a)) → a ≡ c
      by h =
          ⊎_elim {C = a ≡ c} (λ (e : a ≡ c). e)
          (λ (k : (a < c) ⊎ (c < a)). ⊎_elim {C = a ≡ c} (λ (lt : a < c). absurd (not_later t a b u v c d p q s l r m lt)) (λ (lt : c < a). absurd (not_later t c d p q a b u v r m s l lt)) k)
          h

      to : Span on a d p q → (b ≡ d) ⊎ ((b < d) ⊎ (d < b)) → b ≡ d
      to z h =
          ⊎_elim {C = b ≡ d} (λ (e : b ≡ d). e)
          (λ (k : (b < d) ⊎ (d < b)). ⊎_elim {C = b ≡ d} (λ (lt : b < d). absurd (not_sooner a d p q b u v z s lt)) (λ (lt : d < b). absurd (not_sooner a b u v d p q s z lt)) k)
          h

  module _ (G : ℕ → ℕ) (rising : NeverFall on) (a u : ℕ) (first : FirstIndex on a u) (start : G a ≡ 0) (grows : (c d p q : ℕ) → Span on c d p q → G d ≡ G c + (q - p)) where
    above_first : (d v : ℕ) → on d ≡ Some v → u ≤ v
    above_first d v k =
        ⊎_elim {C = u ≤ v} (λ (e : a ≡ d). let same = same_value a u v first.stands (ap on e ∙ k) in omega arith)
        (λ (o : (a < d) ⊎ (d < a)). ⊎_elim {C = u ≤ v} (λ (lt : a < d). rising a d u v lt first.stands k) (λ (lt : d < a). absurd (differ (on d) k (first.none_before d lt))) o)
        (cases_order a d)

    at_first : (c w : ℕ) → on c ≡ Some w → c ≤ a → G c ≡ w - u
    at_first c w h le =
        let at : c ≡ a = ⊎_elim {C = c ≡ a} (λ (lt : c < a). absurd (differ (on c) h (first.none_before c lt))) (λ (ge : a ≤ c). omega arith) (cases_lt c a) in
        let same : w ≡ u = same_value a w u (ap on (sym at) ∙ h) first.stands in
        omega (arith, ap G at)

    by_last : (c w : ℕ) → on c ≡ Some w → (o : Option (ℕ × ℕ)) → last_before on c ≡ o → ((d v : ℕ) → d < c → on d ≡ Some v → G d ≡ v - u) → G c ≡ w - u
    by_last c w h None e was = at_first c w h (⊎_elim {C = c ≤ a} (λ (lt : a < c). absurd (differ (on a) first.stands (last_empty on c e a lt))) (λ (le : c ≤ a). le) (cases_lt a c))
    by_last c w h (Some p) e was =
        let l = latest_by on c p e in
        let sooner = was p.0 p.1 l.early l.stands in
        let this = grows p.0 c p.1 w (record { forward = l.early; first = l.stands; last = h; none_between = l.none_later }) in
        let up = rising p.0 c p.1 w l.early l.stands h in
        let low = above_first p.0 p.1 l.stands in
        omega arith

    -- what grows by the energy of each span has grown, at an index, by what lies between it and the first
    pub telescope : (n c w : ℕ) → c ≤ n → on c ≡ Some w → G c ≡ w - u
    telescope zero c w le h = at_first c w h (omega arith)
    telescope (suc n) c w le h = by_last c w h (last_before on c) refl (λ d v lt k. telescope n d v (omega arith) k)

pub half_hours_in_spans : HalfHoursInSpans
half_hours_in_spans = record {
  within = within;
  only = only;
  none = λ on few a b u v s. few a b u v s.forward s.first s.last;
  one = one;
}
