-- The span that begins on a day, from what the days after it gave in turn. Assumes nothing.
use Rattle.std.proofs.Common.{◌≡◌, ℕ, ◌+◌, ◌-◌, ◌<◌, Some, None, Option, sym, refl, subst, arith}
use Rattle.span_rules.proofs.Tracks.{differ}
use Rattle.spans.specs.declared.DialSpan.{DialSpan}
use Rattle.spans.specs.Finding.{ending, Found, Begins}

none_from : (o : Option ℕ) (a u b : ℕ) → ending o a u b ≡ None → o ≡ None
none_from None a u b h = refl
none_from (Some v) a u b h = cc

some_from : (o : Option ℕ) (a u b : ℕ) (z : DialSpan) → Some z ≡ ending o a u b → (v : ℕ) × (o ≡ Some v) × (z ≡ record { from = a; to = b; energy = v - u })
some_from None a u b z h = cc
some_from (Some v) a u b z h = (v, refl, cc)

module _ (on : ℕ → Option ℕ) (days a u : ℕ) (first : on a ≡ Some u) where
  abbrev At : ℕ → Option DialSpan
  At i = ending (on (a + 1 + i)) a u (a + 1 + i)

  -- no index stands on a day that gave none
  none_at : (i d : ℕ) → a + 1 + i ≡ d → At i ≡ None → on d ≡ None
  none_at i d is h = subst (λ (k : ℕ). on k ≡ None) is (none_from (on (a + 1 + i)) a u (a + 1 + i) h)

  pub begins_by : (r : Option DialSpan) → (r ≡ None → (i : ℕ) → a + 1 + i < days + 1 → At i ≡ None) → ((z : DialSpan) → r ≡ Some z → (i : ℕ) × (a + 1 + i < days + 1) × (Some z ≡ At i) × ((j : ℕ) → j < i → At j ≡ None)) → Begins on days a r
  begins_by None missed found = λ b v w le s. differ _ s.last (none_at (b - (a + 1)) b (omega (arith, s.forward)) (missed refl (b - (a + 1)) (omega (arith, s.forward))))
  begins_by (Some z) missed found =
      let f = found z refl in
      let to = a + 1 + f.0 in
      let e = some_from (on to) a u to z f.2 in
      subst (Found on days a) (sym e.2)
      (record {
        u = u;
        v = e.0;
        span = record { forward = omega arith; first = first; last = e.1; none_between = λ d gt lt. none_at (d - (a + 1)) d (omega arith) (f.3 (d - (a + 1)) (omega arith)) };
        begins = refl;
        within = omega (arith, f.1);
        energy = refl;
      })
