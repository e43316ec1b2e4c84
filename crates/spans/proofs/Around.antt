-- The span around a day, from what the days up to it gave in turn. Assumes nothing.
use Rattle.std.proofs.Common.{◌≡◌, ℕ, ◌+◌, ◌<◌, Some, None, Option, refl, arith}
use Rattle.spans.specs.declared.DialSpan.{DialSpan}
use Rattle.spans.specs.Finding.{HoldingDay, RunsPast}

module _ (on : ℕ → Option ℕ) (days day : ℕ) where
  pub around_by : (r : Option DialSpan) → (r ≡ None → (a : ℕ) → a < day + 1 → RunsPast on days day a None) → ((z : DialSpan) → r ≡ Some z → (a : ℕ) × (a < day + 1) × RunsPast on days day a (Some z)) → HoldingDay on days day r
  unfolding RunsPast
  around_by None missed found = λ a b u v le s begun past. missed refl a (omega (arith, begun)) b u v le s past
  around_by (Some z) missed found =
      let f = found z refl in
      let h = f.2.0 in
      record {
        u = h.u;
        v = h.v;
        span = h.span;
        begun = omega (arith, h.begins, f.1);
        not_over = f.2.1;
        within = h.within;
        energy = h.energy;
      }
