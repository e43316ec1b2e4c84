-- A sheet whose cells hold the pieces of all dials is an account. Assumes nothing.
use Rattle.std.proofs.Common.{◌≡◌, ℕ, ◌+◌, ◌-◌, ◌*◌, ◌/◌, ◌%◌, ◌^◌, ◌<◌, ◌≤◌, ◌⊎◌, List, [], ◌∷◌, ℤ, pos, Some, None, fold, Option, sym, refl, ap, ◌∙◌, subst, inl, inr, arith}
use Rattle.sharing.specs.Shares.{before, figure}
use Rattle.amounts.specs.Laws.{Joining}
use Rattle.factors.specs.declared.Thresholds.{Thresholds}
use Rattle.book_rules.specs.declared.Situation.{Situation}
use Rattle.book_rules.specs.declared.Index.{Index}
use Rattle.book_rules.specs.declared.Call.{Call}
use Rattle.book_rules.specs.Contents.{Setup, Contents}
use Rattle.book_rules.specs.Telling.{Told}
use Rattle.book_rules.proofs.Orders.{always_orderly}
use Rattle.span_rules.specs.Spans.{bounding, Lies}
use Rattle.span_rules.specs.Days.{Metering, metering, from}
use Rattle.span_rules.specs.Figures.{used, Judged, figure_in, CurveOf}
use Rattle.span_rules.proofs.Sums.{before_same, before_zeros}
use Rattle.span_rules.proofs.Curves.{figure_in_is, spans_fair}
use Rattle.span_rules.proofs.Steps.{Tracked, tracked}
use Rattle.sheet_rules.specs.Dials.{Among}
use Rattle.sheet_rules.specs.Rows.{rows, half_hours, InCell, ExactlyThose}
use Rattle.sheet_rules.specs.Account.{sum_before, Counted, pieces, FollowsShare, Account}
use Rattle.sheet_rules.proofs.Sums.{before_swap, before_picked, before_pairs, sum_pos}
use Rattle.sheet_rules.proofs.Lists.{Dials, SameMembers}
use Rattle.sheet_rules.proofs.Folds.{same_joined}
use Rattle.sheet_rules.proofs.There.{place, figure_at, placed, nowhere, curve_at, same_figures, figure_small, row_within, counted_some, counted_figures}
use Rattle.sheet_rules.proofs.Dials.{dial, part, place_of, figures_of, listed, Listed, listed_are, listed_has, listed_once, listed_few, added, added_energy, added_pieces}

-- through any half-hour the figures follow the exact share
pub follows_share : (x : Metering) (a b p q : ℕ) (n : Option ℕ) → Judged x a b p q n → (t : ℕ) → Lies a b t → FollowsShare x a b (q - p) n t
follows_share x a b p q n judged t lies =
    let fair = spans_fair x a b p q n judged in
    let i = t + 1 - 48 * a in
    let same : before (from (figure_in x a b (q - p) n) (48 * a)) i ≡ before (figure (q - p) (from (used x n) (48 * a)) (48 * (b - a))) i = before_same _ _ i (λ k lt. figure_in_is x a b (q - p) n k) in
    let s = before (from (used x n) (48 * a)) (48 * (b - a)) in
    let w = before (from (used x n) (48 * a)) i in
    record {
      never_above = subst (λ (f : ℕ). f * s ≤ (q - p) * w) (sym same) (fair.never_above i);
      short_by_less = subst (λ (f : ℕ). (q - p) * w < (f + 1) * s) (sym same) (fair.short_by_less i);
    }

-- the same pieces, from equal figures
equal_figures : {X : Type 0} (joined : X → X → X) (f g : ℕ × ℕ → X) → ((d : ℕ × ℕ) → f d ≡ g d) → (x : X) (ds : Dials) → fold (λ x d. joined x (f d)) x ds ≡ fold (λ x d. joined x (g d)) x ds
equal_figures joined f g h x [] = refl
equal_figures {X} joined f g h x (d ∷ ds) = ap (λ (z : X). fold (λ x d. joined x (f d)) (joined x z) ds) (h d) ∙ equal_figures joined f g h (joined x (g d)) ds

module _ {X : Type 0} {nil : X} {piece : ℕ → ℕ → X} {joined : X → X → X} {energy : X → ℤ} {size : X → ℕ} (laws : Joining nil piece joined energy size) (u : Setup) (h : List Call) (m : Contents) (told : Told u h m) (few : u.sites ≤ 256) (w : ℕ → ℕ → ℕ) (th : Thresholds) where
  abbrev pub of : ℕ → ℕ → Metering
  of s k = metering m w th s k

  abbrev pub track : (s k : ℕ) → Tracked u.days (of s k).on
  track s k = tracked u h m told s k

  -- the cell of row r, half-hour t once all dials are drawn
  abbrev pub whole_cell : ℕ → ℕ → X
  whole_cell r t = added u.parties u.days of track laws r t (2 * u.sites)

  abbrev places : ℕ → ℕ → Option (ℕ × ℕ)
  places j t = place_of u.parties u.days of track j t

  known : (s c : ℕ) (y : Situation) → (of s 0).starting c ≡ Some y → y.terms.party < u.parties
  known s c y e = ((always_orderly u h m told).known_situations s c y e).party

  -- a dial that has a piece is one of the book's
  numbered : (r t s k : ℕ) → InCell u.parties (of s k) r t → (j : ℕ) × (j < 2 * u.sites) × ◌≡◌ {A = ℕ × ℕ} (s, k) (dial j)
  numbered r t s k c = by (m.index s k c.b) refl c.judged.span.last
    where
      by : (o : Option Index) → m.index s k c.b ≡ o → bounding o ≡ Some c.v → (j : ℕ) × (j < 2 * u.sites) × ◌≡◌ {A = ℕ × ℕ} (s, k) (dial j)
      by None e q = let z : ◌≡◌ {A = ℕ} 0 1 = cc in absurd (omega arith)
      by (Some i) e q =
          let d = (always_orderly u h m told).known_dials s k c.b i e in
          let j = 2 * s + (k - 1) in
          let site : s ≡ j / 2 = omega (arith, d.least, d.most) in
          let number : k ≡ j % 2 + 1 = omega (arith, d.least, d.most) in
          (j, omega (arith, d.site, d.most), λ z. (site z, number z))

  exactly : (r t : ℕ) → ExactlyThose u.parties of r t (listed u.parties u.days of track r t (2 * u.sites))
  exactly r t = record {
    those = λ s k a. (listed_are u.parties u.days of track r t (2 * u.sites) (s, k) a).there;
    all = λ s k c.
        let j = numbered r t s k c in
        subst (λ (d : ℕ × ℕ). Among d (listed u.parties u.days of track r t (2 * u.sites))) (sym j.2)
        (listed_has u.parties u.days of track r t (2 * u.sites) j.0 j.1 (subst (λ (d : ℕ × ℕ). InCell u.parties (of d.0 d.1) r t) j.2 c));
    once = listed_once u.parties u.days of track r t (2 * u.sites);
  }

  joins : (figures : ℕ → ℕ → ℕ → ℕ) → ((s k : ℕ) → CurveOf (of s k) (figures s k)) → (r t : ℕ) (ds : Dials) → ExactlyThose u.parties of r t ds → whole_cell r t ≡ pieces nil piece joined figures t ds
  joins figures curves r t ds those =
      let es = listed u.parties u.days of track r t (2 * u.sites) in
      let mine = exactly r t in
      let f : ℕ × ℕ → X = λ d. piece (figures d.0 d.1 t) d.1 in
      let same : (s k : ℕ) → figures s k t ≡ figures_of u.parties u.days of track s k t = λ s k. same_figures u.parties u.days (of s k) (track s k) (figures s k) (curves s k) t in
      added_pieces u.parties u.days of track laws r t (2 * u.sites)
      ∙ (equal_figures joined (λ d. piece (figures_of u.parties u.days of track d.0 d.1 t) d.1) f (λ d. ap (λ (z : ℕ). piece z d.1) (sym (same d.0 d.1))) nil es
      ∙ sym (same_joined laws f nil es ds mine.once those.once
      (record { onward = λ z a. mine.all z.0 z.1 (those.those z.0 z.1 a); backward = λ z a. those.all z.0 z.1 (mine.those z.0 z.1 a) })
      (λ d a. small d (listed_are u.parties u.days of track r t (2 * u.sites) d a) (same d.0 d.1))
      (omega (arith, laws.nil_size, listed_few u.parties u.days of track r t (2 * u.sites)))))
    where
      small : (d : ℕ × ℕ) → Listed u.parties u.days of track r t d (2 * u.sites) → figures d.0 d.1 t ≡ figures_of u.parties u.days of track d.0 d.1 t → size (piece (figures d.0 d.1 t) d.1) ≤ 10 ^ 9
      small d l same =
          let number = ap (λ (z : ℕ × ℕ). z.1) l.is in
          laws.piece_size (figures d.0 d.1 t) d.1 (omega (arith, figure_small u.parties u.days (of d.0 d.1) (track d.0 d.1) t)) (omega arith) (omega arith)

  -- what a half-hour's places bring to all rows is the figure
  all_rows : (j t : ℕ) → before (λ r. part r (places j t)) (rows u) ≡ figures_of u.parties u.days of track (dial j).0 (dial j).1 t
  all_rows j t = by (places j t) refl
    where
      by : (o : Option (ℕ × ℕ)) → places j t ≡ o → before (λ r. part r o) (rows u) ≡ figures_of u.parties u.days of track (dial j).0 (dial j).1 t
      by None e = before_zeros (λ r. part r None) (rows u) (λ r lt. refl) ∙ sym (nowhere u.parties u.days (of (dial j).0 (dial j).1) (track (dial j).0 (dial j).1) t e)
      by (Some p) e =
          let there = placed u.parties u.days (of (dial j).0 (dial j).1) (track (dial j).0 (dial j).1) t p.0 p.1 e in
          before_picked p.0 p.1 (rows u) (row_within u.parties u.days (of (dial j).0 (dial j).1) (track (dial j).0 (dial j).1) (known (dial j).0) p.0 t there.0) ∙ there.1

  module _ (cell : ℕ → ℕ → X) (drawn : (r t : ℕ) → r < rows u → t < half_hours u → cell r t ≡ whole_cell r t) where
    adds : (counted : ℕ → ℕ → ℕ) → ((s k : ℕ) → Counted (of s k).on (counted s k)) → sum_before (λ r. sum_before (λ t. energy (cell r t)) (half_hours u)) (rows u) ≡ pos (before (λ s. counted s 1 + counted s 2) u.sites)
    adds counted counts =
        let n = 2 * u.sites in let hs = half_hours u in
        sum_pos _ (λ r. before (λ t. before (λ j. part r (places j t)) n) hs) (rows u) (λ r row. sum_pos _ (λ t. before (λ j. part r (places j t)) n) hs (λ t half. ap energy (drawn r t row half) ∙ added_energy u.parties u.days of track laws r t n (omega arith)))
        ∙ ap pos
        (before_same _ (λ r. before (λ j. before (λ t. part r (places j t)) hs) n) (rows u) (λ r row. before_swap (λ t j. part r (places j t)) hs n)
        ∙ (before_swap (λ r j. before (λ t. part r (places j t)) hs) (rows u) n
        ∙ (before_same _ (λ j. counted (dial j).0 (dial j).1) n (λ j lt.
        before_swap (λ r t. part r (places j t)) (rows u) hs
        ∙ (before_same _ (figures_of u.parties u.days of track (dial j).0 (dial j).1) hs (λ t half. all_rows j t)
        ∙ counted_figures u.parties u.days (of (dial j).0 (dial j).1) (track (dial j).0 (dial j).1) (counted (dial j).0 (dial j).1) (counts (dial j).0 (dial j).1)))
        ∙ (before_pairs (λ j. counted (dial j).0 (dial j).1) u.sites ∙ before_same _ (λ s. counted s 1 + counted s 2) u.sites (λ s lt. pair counted s)))))
      where
        pair : (c : ℕ → ℕ → ℕ) (s : ℕ) → c (dial (2 * s)).0 (dial (2 * s)).1 + c (dial (2 * s + 1)).0 (dial (2 * s + 1)).1 ≡ c s 1 + c s 2
        pair c s =
            let a : 2 * s / 2 ≡ s = omega arith in
            let b : 2 * s % 2 + 1 ≡ 1 = omega arith in
            let d : (2 * s + 1) / 2 ≡ s = omega arith in
            let e : (2 * s + 1) % 2 + 1 ≡ 2 = omega arith in
            cc

    pub account : Account nil piece joined energy u m w th cell
    account = record {
      adds_up = adds;
      joins = λ figures curves r t row half ds those. drawn r t row half ∙ joins figures curves r t ds those;
      listed = λ r t row half. (listed u.parties u.days of track r t (2 * u.sites), exactly r t);
      follows = λ s k a b p q n judged t lies. follows_share (of s k) a b p q n judged t lies;
      curves = λ s k. (figure_at u.parties u.days (of s k) (track s k), curve_at u.parties u.days (of s k) (track s k));
      counts = λ s k. counted_some u.parties u.days (of s k) (track s k);
    }
