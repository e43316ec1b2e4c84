-- Figures written into a part of the places, by weights in a part of theirs. Assumes nothing.
use Rattle.std.proofs.Common.{◌≡◌, ℕ, ◌-◌, ◌<◌, ◌≤◌, ◌⊎◌, List, length, get_or, ap, ◌∙◌, inl, inr, arith, rules, length-take, length-drop}
use Rattle.std.specs.List.{between}
use Rattle.std.proofs.lemmas.List.{places}
use Rattle.std.proofs.lemmas.List.Edits.{get_or-between}
use borrow.Rule.Slice.PartMut.{put_mid, mid_of}
use Rattle.sharing.specs.Shares.{before, figure, weighed, total}
use Rattle.span_rules.specs.Days.{from}
use Rattle.span_rules.proofs.Sums.{before_same}
use Rattle.span_rules.proofs.Curves.{figure_same}

module _ (first end : ℕ) (ws : List ℕ) (le : first ≤ end) (room : end ≤ length ws) where
  pub length_part : length (between first end ws) ≡ end - first
  length_part = simp (length-take, length-drop) (omega arith)

  part_at : (i : ℕ) → i < end - first → weighed (between first end ws) i ≡ from (weighed ws) first i
  part_at i lt = get_or-between ws first end i 0 (omega arith)

  pub total_part : total (between first end ws) ≡ before (from (weighed ws) first) (end - first)
  total_part = ap (before (weighed (between first end ws))) length_part ∙ before_same _ _ (end - first) part_at

  pub figure_part : (e i : ℕ) → i < end - first → figure e (weighed (between first end ws)) (length (between first end ws)) i ≡ figure e (from (weighed ws) first) (end - first) i
  figure_part e i lt = ap (λ (n : ℕ). figure e (weighed (between first end ws)) n i) length_part ∙ figure_same e _ _ (end - first) i part_at lt

module _ (first end : ℕ) (old new : List ℕ) (le : first ≤ end) (room : end ≤ length old) (long : length new ≡ length (mid_of first (end - first) old)) where
  as_long : length new ≡ end - first
  as_long = long ∙ simp (length-take, length-drop) (omega arith)

  pub mid_at : (t : ℕ) → first ≤ t → t < end → get_or (put_mid first (end - first) old new) t 0 ≡ get_or new (t - first) 0
  mid_at t lo hi = let k = as_long in search (rules, places)

  pub around_mid : (t : ℕ) → (t < first) ⊎ (end ≤ t) → get_or (put_mid first (end - first) old new) t 0 ≡ get_or old t 0
  around_mid t (inl h) = let k = as_long in search (rules, places)
  around_mid t (inr h) = let k = as_long in search (rules, places)
