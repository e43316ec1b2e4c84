-- What each act does to the situations of a site and the indexes of a dial: they stay in order. Assumes nothing.
use Rattle.std.proofs.Common.{◌≡◌, ℕ, ◌<◌, ◌≤◌, Some, None, Option, ⊎_elim, arith}
use Rattle.std.proofs.lemmas.Bool.{cases_lt}
use Rattle.book_rules.specs.declared.Terms.{Terms}
use Rattle.book_rules.specs.declared.Situation.{Situation}
use Rattle.book_rules.specs.declared.Index.{Index}
use Rattle.book_rules.specs.Contents.{Last}
use Rattle.book_rules.specs.Telling.{begun, ended_on}
use Rattle.book_rules.specs.Laws.{Chain, Track}
use Rattle.book_rules.proofs.Keys.{not_none, Changed, look}

-- every situation has ended by day d
abbrev pub Free : (ℕ → Option Situation) → ℕ → Type 0
Free f d = (b : ℕ) (x : Situation) → f b ≡ Some x → (e : ℕ) × (x.end ≡ Some e) × (e ≤ d)

module _ (days : ℕ) (f g : ℕ → Option Situation) (ch : Chain days f) where
  -- a new one starts where all have ended
  pub chain_open : (d : ℕ) (t : Terms) → d < days → Free f d → Changed d (Some (begun t)) f g → Chain days g
  chain_open d t lt free c = record {
    ends_later = λ b e x h k. let l = look d b _ f g c x h in let o = ch.ends_later b e x in grind arith;
    apart = λ b a x y less h k. let l = look d b _ f g c x h in let m = look d a _ f g c y k in let o = ch.apart b a x y less in let p = free b x in let q = free a y in let r = λ (e : ℕ). ch.ends_later a e y in grind arith;
    starts_within = λ b x h. let l = look d b _ f g c x h in let o = ch.starts_within b x in grind arith;
    ends_within = λ b e x h k. let l = look d b _ f g c x h in let o = ch.ends_within b e x in grind arith;
  }

  -- the last one ends on a day after its start
  pub chain_end : (d b₀ : ℕ) (x₀ : Situation) → Last f b₀ x₀ → b₀ < d → d ≤ days → Changed b₀ (Some (ended_on d x₀)) f g → Chain days g
  chain_end d b₀ x₀ last lt le c = record {
    ends_later = λ b e x h k. let l = look b₀ b _ f g c x h in let o = ch.ends_later b e x in grind arith;
    apart = λ b a x y less h k. let l = look b₀ b _ f g c x h in let m = look b₀ a _ f g c y k in let o = ch.apart b a x y less in let p = ch.apart b a x x₀ less in let s = last.starts in let n = last.none_later a in grind arith;
    starts_within = λ b x h. let l = look b₀ b _ f g c x h in let o = ch.starts_within b x in grind arith;
    ends_within = λ b e x h k. let l = look b₀ b _ f g c x h in let o = ch.ends_within b e x in grind arith;
  }

  -- all situations have ended by the day on which the last one was ended
  pub free_after : (d b₀ : ℕ) (x₀ : Situation) → Last f b₀ x₀ → b₀ < d → Changed b₀ (Some (ended_on d x₀)) f g → Free g d
  free_after d b₀ x₀ last lt c b x h = let l = look b₀ b _ f g c x h in let o = ch.apart b b₀ x x₀ in let s = last.starts in let n = last.none_later b in grind arith

  -- one gets new terms
  pub chain_correct : (d : ℕ) (t : Terms) (x₀ : Situation) → f d ≡ Some x₀ → Changed d (Some (record { end = x₀.end; terms = t })) f g → Chain days g
  chain_correct d t x₀ at c = record {
    ends_later = λ b e x h k. let w = was b x h in let o = ch.ends_later b e w.0 w.1 in grind arith;
    apart = λ b a x y less h k. let w = was b x h in let v = was a y k in let o = ch.apart b a w.0 v.0 less w.1 v.1 in grind arith;
    starts_within = λ b x h. let w = was b x h in ch.starts_within b w.0 w.1;
    ends_within = λ b e x h k. let w = was b x h in let o = ch.ends_within b e w.0 w.1 in grind arith;
  }
    where
      was : (b : ℕ) (x : Situation) → g b ≡ Some x → (z : Situation) × (f b ≡ Some z) × (z.end ≡ x.end)
      was b x h = let l = look d b _ f g c x h in grind arith

-- where the last one has ended, all have ended by then
pub free_ended : (days : ℕ) (f : ℕ → Option Situation) → Chain days f → (d b₀ e₀ : ℕ) (x₀ : Situation) → Last f b₀ x₀ → x₀.end ≡ Some e₀ → e₀ ≤ d → Free f d
free_ended days f ch d b₀ e₀ x₀ last end le b x h =
    let s = last.starts in let n = last.none_later b in let l = ch.ends_later b₀ e₀ x₀ s end in
    ⊎_elim {C = (e : ℕ) × (x.end ≡ Some e) × (e ≤ d)}
    (λ (less : b < b₀). let o = ch.apart b b₀ x x₀ less h s in grind arith)
    (λ (more : b₀ ≤ b). (e₀, grind arith, le))
    (cases_lt b b₀)

module _ (days : ℕ) (f g : ℕ → Option Index) (tr : Track days f) where
  -- an index that is not below an earlier nor above a later one
  pub track_enter : (d v : ℕ) → d ≤ days → v ≤ 999999999 → ((e : ℕ) (x : Index) → e < d → f e ≡ Some x → x.value ≤ v) → ((e : ℕ) (x : Index) → d < e → f e ≡ Some x → v ≤ x.value) → Changed d (Some (record { value = v })) f g → Track days g
  track_enter d v le small low high c = record {
    never_fall = λ a b x y less h k. let l = look d a _ f g c x h in let m = look d b _ f g c y k in let o = tr.never_fall a b x y less in let p = low a x in let q = high b y in grind arith;
    within = λ a x h. let l = look d a _ f g c x h in let o = tr.within a x in grind arith;
    bounded = λ a x h. let l = look d a _ f g c x h in let o = tr.bounded a x in grind arith;
  }

  -- an index goes
  pub track_strike : (d : ℕ) → Changed d None f g → Track days g
  track_strike d c = record {
    never_fall = λ a b x y less h k. tr.never_fall a b x y less (was a x h) (was b y k);
    within = λ a x h. tr.within a x (was a x h);
    bounded = λ a x h. tr.bounded a x (was a x h);
  }
    where
      was : (a : ℕ) (x : Index) → g a ≡ Some x → f a ≡ Some x
      was a x h = let l = look d a _ f g c x h in grind arith

-- nothing is in order
pub chain_none : (days : ℕ) (f : ℕ → Option Situation) → ((b : ℕ) → f b ≡ None) → Chain days f
chain_none days f none = record { ends_later = λ b e x h. absurd (not_none (f b) h (none b)); apart = λ b a x y less h. absurd (not_none (f b) h (none b)); starts_within = λ b x h. absurd (not_none (f b) h (none b)); ends_within = λ b e x h. absurd (not_none (f b) h (none b)) }

pub track_none : (days : ℕ) (f : ℕ → Option Index) → ((d : ℕ) → f d ≡ None) → Track days f
track_none days f none = record { never_fall = λ a b x y less h. absurd (not_none (f a) h (none a)); within = λ a x h. absurd (not_none (f a) h (none a)); bounded = λ a x h. absurd (not_none (f a) h (none a)) }
