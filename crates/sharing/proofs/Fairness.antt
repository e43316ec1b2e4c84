-- The laws of the running share, and what they make of the figures of a span. Assumes nothing.
use Rattle.std.proofs.Common.{◌≡◌, ℕ, zero, suc, ◌+◌, ◌-◌, ◌*◌, ◌/◌, ◌<◌, ◌≤◌, sym, refl, ap, ◌∙◌, le_trans, add-mul, mul-le-mul_left, one-mul, mul-zero, div-mul-le_self, mul-div_cancel, arith}
use native.Mathlib.Nat.{lt-div-mul-add, zero-div}
use Rattle.std.proofs.lemmas.Nat.{le-div}
use Rattle.sharing.specs.Shares.{before, running_share, figure}
use Rattle.sharing.specs.Laws.{RunningLaws, Fair}
use Rattle.sharing.proofs.Sums.{before_none, before_more, before_le}

starts : (e s : ℕ) → running_share e s 0 ≡ 0
unfolding running_share
starts e s = rw (mul-zero, zero-div)

ends : (e s : ℕ) → 0 < s → running_share e s s ≡ e
unfolding running_share
ends e s some = mul-div_cancel e some

never_falls : (e s u v : ℕ) → 0 < s → u ≤ v → running_share e s u ≤ running_share e s v
unfolding running_share
never_falls e s u v some h = le-div (e * u / s) (e * v) s some (le_trans (div-mul-le_self (e * u) s) (mul-le-mul_left e h))

never_above : (e s w : ℕ) → running_share e s w * s ≤ e * w
unfolding running_share
never_above e s w = div-mul-le_self (e * w) s

short_by_less : (e s w : ℕ) → 0 < s → e * w < (running_share e s w + 1) * s
unfolding running_share
short_by_less e s w some = rw (add-mul, one-mul) (lt-div-mul-add some)

pub running_laws : RunningLaws
running_laws = record { starts = starts; ends = ends; never_falls = never_falls; never_above = never_above; short_by_less = short_by_less }

pub figure_is : (e : ℕ) (w : ℕ → ℕ) (n t : ℕ) → figure e w n t ≡ running_share e (before w n) (before w (t + 1)) - running_share e (before w n) (before w t)
unfolding figure
figure_is e w n t = refl

-- from here on by the laws alone
module _ (laws : RunningLaws) where
  -- what lies behind has been given in part, never more than all
  pub at_most_all : (e s w : ℕ) → 0 < s → w ≤ s → running_share e s w ≤ e
  at_most_all e s w some h = omega (arith, laws.never_falls e s w s some h, laws.ends e s some)

  module _ (e : ℕ) (w : ℕ → ℕ) (n : ℕ) (some : 0 < before w n) where
    -- the figures telescope
    run : (t : ℕ) → before (figure e w n) t ≡ running_share e (before w n) (before w t)
    run zero = before_none (figure e w n) ∙ (sym (laws.starts e (before w n)) ∙ ap (running_share e (before w n)) (sym (before_none w)))
    run (suc t) =
        let s = before w n in
        let one : suc t ≡ t + 1 = omega arith in
        let here = run t in
        let share_next = ap (running_share e s) (ap (before w) one) in
        let sum_next = before_more (figure e w n) t ∙ ap (λ (v : ℕ). before (figure e w n) t + v) (figure_is e w n t) in
        let sum_at = ap (before (figure e w n)) one in
        let up = laws.never_falls e s (before w t) (before w (t + 1)) some (omega (arith, before_more w t)) in
        omega arith

    adds_up : before (figure e w n) n ≡ e
    adds_up = run n ∙ laws.ends e (before w n) some

    pub fair : Fair e w n
    fair = record {
      run = run;
      adds_up = adds_up;
      at_most = λ t h. omega (arith, adds_up, before_more (figure e w n) t, before_le (figure e w n) (t + 1) n (omega arith));
      never_above = λ t. rw (run t) (laws.never_above e (before w n) (before w t));
      short_by_less = λ t. rw (run t) (laws.short_by_less e (before w n) (before w t) some);
    }
