-- Weights written place by place, and their sum; and a span's places in a longer list. Assumes nothing.
use Rattle.std.proofs.Common.{◌≡◌, ℕ, ◌+◌, ◌-◌, ◌<◌, ◌≤◌, List, length, get_or, set, sym, ap, ◌∙◌, subst, arith, get_or-set_same, below_more, rules, length-take, length-drop}
use Rattle.std.proofs.lemmas.Grind.{common_steps}
use Rattle.std.proofs.lemmas.List.{places}
use borrow.Rule.Slice.PartMut.{put_mid, mid_of}
use Rattle.sharing.specs.Shares.{before}
use Rattle.sharing.proofs.Sums.{before_none, before_more}
use Rattle.span_rules.specs.Days.{from}
use Rattle.judgements.specs.Judgements.{Weighed, WeighedInto}

pub weighed_none : (w : ℕ → ℕ) (first : ℕ) (ws : List ℕ) → WeighedInto w first 0 ws 0
weighed_none w first ws = record { places = λ i h. absurd (omega arith); sum = sym (before_none (from w first)) }

pub weighed_more : (w : ℕ → ℕ) (first n x y s : ℕ) (ws : List ℕ) → n < length ws → x ≡ w (first + n) → y ≡ x → WeighedInto w first n ws s → WeighedInto w first (n + 1) (set ws n x) (s + y)
weighed_more w first n x y s ws room is same was = record {
  places = below_more _ n (λ k h. grind (arith, common_steps, was.places k h)) (rw get_or-set_same is);
  sum = omega (arith, before_more (from w first) n, was.sum);
}

module _ (first end : ℕ) (ws : List ℕ) (le : first ≤ end) (room : end ≤ length ws) where
  pub length_mid : length (mid_of first (end - first) ws) ≡ end - first
  length_mid = simp (length-take, length-drop) (omega arith)

  -- what is written into a part of a list stands there
  pub at_mid : (new : List ℕ) → length new ≡ length (mid_of first (end - first) ws) → (t : ℕ) → first ≤ t → t < end → get_or (put_mid first (end - first) ws new) t 0 ≡ get_or new (t - first) 0
  at_mid new long t lo hi = let k = long ∙ length_mid in search (rules, places)

  weighed_mid : (w : ℕ → ℕ) (new : List ℕ) (s : ℕ) → length new ≡ length (mid_of first (end - first) ws) → WeighedInto w first (length (mid_of first (end - first) ws)) new s → Weighed w first end (put_mid first (end - first) ws new) s
  weighed_mid w new s long h = record {
    places = λ t lo hi.
        let at : first + (t - first) ≡ t = omega arith in
        at_mid new long t lo hi ∙ (h.places (t - first) (omega (arith, length_mid)) ∙ ap w at);
    sum = h.sum ∙ ap (before (from w first)) length_mid;
  }

-- the same where the half-hours are told otherwise
pub weighed_part : (w : ℕ → ℕ) (p q first end s : ℕ) (ws new : List ℕ) → first ≡ p → end ≡ q → first ≤ end → end ≤ length ws → length new ≡ length (mid_of first (end - first) ws)
    → WeighedInto w first (length (mid_of first (end - first) ws)) new s → Weighed w p q (put_mid first (end - first) ws new) s
weighed_part w p q first end s ws new first_is end_is le room long h =
    let into = put_mid first (end - first) ws new in
    subst (λ (k : ℕ). Weighed w k q into s) first_is (subst (λ (k : ℕ). Weighed w first k into s) end_is (weighed_mid first end ws le room w new s long h))
