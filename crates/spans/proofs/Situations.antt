-- The days of a span looked at one by one. Assumes nothing.
use Rattle.std.proofs.Common.{◌≡◌, ℕ, ◌+◌, ◌-◌, ◌<◌, ◌≤◌, Bool, true, false, cond, not, ◌&&◌, leb, is_some, Some, None, Option, sym, refl, ap, ◌∙◌, ⊎_elim, arith}
use Rattle.std.proofs.lemmas.Bool.{cases_lt, true≢false, false≢true, both_ways, and_parts, leb-true, le-leb, not-true, not-false}
use Rattle.book_rules.specs.declared.Situation.{Situation}
use Rattle.span_rules.specs.Lasts.{later, last_before}
use Rattle.span_rules.specs.Days.{not_ended, unless_ended, serving}
use Rattle.span_rules.proofs.Lasts.{last_none, last_more, last_kept, latest_by}
use Rattle.span_rules.proofs.Serving.{serving_is}
use Rattle.spans.specs.Judging.{Throughout, Gap, Change}

pub not_there : {X : Type 0} (o : Option X) → is_some o ≡ false → o ≡ None
not_there None h = refl
not_there (Some x) h = absurd (true≢false h)

and_right : (x y : Bool) → x ≡ true → (x && y) ≡ false → y ≡ false
and_right true y e h = h
and_right false y e h = absurd (false≢true e)

running_one : (d : ℕ) (v : ℕ × Situation) → is_some (unless_ended d (Some v)) ≡ true → unless_ended d (Some v) ≡ Some v
running_one d v h = by (not_ended d v.1.end) h
  where
    by : (t : Bool) → is_some (cond t (Some v) None) ≡ true → cond t (Some v) None ≡ Some v
    by true k = refl
    by false k = absurd (false≢true k)

module _ (f : ℕ → Option Situation) (a : ℕ) where
  -- what is known once the days before n have been looked at
  pub record LookedAt (n : ℕ) (latest : Option (ℕ × Situation)) : Type 0 where
    pub last : latest ≡ last_before f n
    pub served : (d : ℕ) → a ≤ d → d < n → is_some (serving f d) ≡ true

  pub looked_none : LookedAt 0 None
  looked_none = record { last = sym (last_none f); served = λ d ge lt. absurd (omega arith) }

  module _ (n : ℕ) (latest after : Option (ℕ × Situation)) (was : LookedAt n latest) (moved : after ≡ later n (f n) latest) where
    last_now : after ≡ last_before f (n + 1)
    last_now = moved ∙ (ap (later n (f n)) was.last ∙ sym (last_more f n))

    here : serving f n ≡ unless_ended n after
    here = serving_is f n ∙ ap (unless_ended n) (sym last_now)

    -- one day more, on which a situation runs if the span has begun
    pub looked_more : (leb a n && not (is_some (unless_ended n after))) ≡ false → LookedAt (n + 1) after
    looked_more no_gap = record {
      last = last_now;
      served = λ d ge lt.
          ⊎_elim {C = is_some (serving f d) ≡ true}
          (λ (b : d < n). was.served d ge b)
          (λ (b : n ≤ d). let same : d ≡ n = omega arith in ap (λ (k : ℕ). is_some (serving f k)) same ∙ (ap is_some here ∙ not-false _ (and_right (leb a n) _ (le-leb a n (omega arith)) no_gap)))
          (cases_lt d n);
    }

    -- a day on which none runs
    pub gap_here : (b : ℕ) → n < b → (leb a n && not (is_some (unless_ended n after))) ≡ true → Gap f a b
    gap_here b lt h =
        let both = and_parts (leb a n) (not (is_some (unless_ended n after))) h in
        record { day = n; begun = leb-true a n both.0; not_over = lt; none = here ∙ not_there _ (not-true _ both.1) }

  module _ (b : ℕ) where
    -- all days looked at, and the last situation had begun: they lie in that one
    pub one_situation : (c : ℕ) (y : Situation) → LookedAt b (Some (c, y)) → c ≤ a → Throughout f a b c y
    one_situation c y was early d ge lt =
        let rest = b - (d + 1) in
        let whole : b ≡ d + 1 + rest = omega arith in
        let l = latest_by f b (c, y) (sym was.last) in
        let same : last_before f (d + 1) ≡ Some (c, y) =
        sym (last_kept f (d + 1) rest (λ e lo hi. l.none_later e (omega arith) (omega arith))) ∙ (ap (last_before f) (sym whole) ∙ sym was.last) in
        let is = serving_is f d ∙ ap (unless_ended d) same in
        is ∙ running_one d (c, y) (sym (ap is_some is) ∙ was.served d ge lt)

    -- it began later
    pub several : (c : ℕ) (y : Situation) → LookedAt b (Some (c, y)) → a < c → Change f a b
    several c y was late =
        let l = latest_by f b (c, y) (sym was.last) in
        record { served = was.served; day = c; inside = late; not_over = l.early; starts = ap is_some l.stands }

    -- there is a last one, where there is a day
    pub some_last : LookedAt b None → a < b → ⊥
    some_last was lt =
        let d = b - 1 in
        let whole : d + 1 ≡ b = omega arith in
        let none : serving f d ≡ None = serving_is f d ∙ ap (unless_ended d) (ap (last_before f) whole ∙ sym was.last) in
        both_ways (is_some (serving f d)) (ap is_some none) (was.served d (omega arith) (omega arith))
