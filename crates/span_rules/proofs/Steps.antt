-- One step of sharing, and the indexes of a dial as the calls tell them. Assumes nothing.
use Rattle.std.proofs.Common.{◌≡◌, ℕ, ◌+◌, ◌-◌, ◌<◌, ◌≤◌, min, List, Some, None, Option, sym, refl, ap, ◌∙◌, arith}
use Rattle.sharing.specs.Shares.{before, running_share, figure}
use Rattle.sharing.proofs.Sums.{before_more, before_le}
use Rattle.sharing.proofs.Fairness.{figure_is}
use Rattle.book_rules.specs.declared.Index.{Index}
use Rattle.book_rules.specs.declared.Call.{Call}
use Rattle.book_rules.specs.Contents.{Setup, Contents}
use Rattle.book_rules.specs.Telling.{Told}
use Rattle.book_rules.specs.Laws.{Track}
use Rattle.book_rules.proofs.Orders.{always_orderly}
use Rattle.span_rules.specs.Spans.{bounding}
use Rattle.span_rules.specs.Days.{from}
use Rattle.span_rules.specs.Laws.{NeverFall}

-- the weight of half-hour i of n was added to what lies behind: the share gains its figure
pub record Stepped (e : ℕ) (w : ℕ → ℕ) (n i behind given : ℕ) : Type 0 where
  pub behind_is : behind ≡ before w (i + 1)
  pub figure_given : given ≡ figure e w n i

pub stepped : (e : ℕ) (w : ℕ → ℕ) (n i all behind after x given : ℕ) → all ≡ before w n → i < n → behind ≡ before w i → x ≡ w i → after ≡ min (behind + x) all → given ≡ running_share e all after - running_share e all behind → Stepped e w n i after given
stepped e w n i all behind after x given whole lt was is moved gain =
    let next : after ≡ before w (i + 1) = omega (arith, before_more w i, before_le w (i + 1) n (omega arith)) in
    record { behind_is = next; figure_given = gain ∙ (cc (figure_is e w n i)) }

-- the same of half-hour t of those from first to end - 1, by a sharing of this energy (e₁) and this sum of weights (all₁)
pub stepped_at : (e e₁ : ℕ) (w : ℕ → ℕ) (first end t all all₁ behind after x given : ℕ) → e₁ ≡ e → all₁ ≡ all → first ≤ t → t < end → all ≡ before (from w first) (end - first) → x ≡ w t
    → after ≡ min (behind + x) all₁ → given ≡ running_share e₁ all₁ after - running_share e₁ all₁ behind → behind ≡ before (from w first) (t - first) → Stepped e (from w first) (end - first) (t - first) after given
stepped_at e e₁ w first end t all all₁ behind after x given same_e same_all lo hi whole is moved gain was =
    stepped e (from w first) (end - first) (t - first) all behind after x given whole (omega arith) was (is ∙ ap w (let at : t ≡ first + (t - first) = omega arith in at))
    (moved ∙ ap (min (behind + x)) same_all)
    (gain ∙ (ap (λ (k : ℕ). running_share k all₁ after - running_share k all₁ behind) same_e ∙ ap (λ (k : ℕ). running_share e k after - running_share e k behind) same_all))

bound_by : (o : Option Index) (v : ℕ) → bounding o ≡ Some v → (y : Index) × (o ≡ Some y) × (y.value ≡ v)
bound_by None v h = let z : ◌≡◌ {A = ℕ} 0 1 = cc in absurd (omega arith)
bound_by (Some y) v h = (y, refl, cc)

-- what every history tells of the indexes of a dial
pub record Tracked (days : ℕ) (on : ℕ → Option ℕ) : Type 0 where
  pub within : (d v : ℕ) → on d ≡ Some v → d ≤ days
  pub bounded : (d v : ℕ) → on d ≡ Some v → v ≤ 999999999
  pub rising : NeverFall on

pub tracked : (u : Setup) (h : List Call) (m : Contents) → Told u h m → (s k : ℕ) → Tracked u.days (λ d. bounding (m.index s k d))
tracked u h m told s k =
    let t = (always_orderly u h m told).tracks s k in
    record {
      within = λ d v e. let y = bound_by (m.index s k d) v e in t.within d y.0 y.1;
      bounded = λ d v e. let y = bound_by (m.index s k d) v e in omega (arith, t.bounded d y.0 y.1, y.2);
      rising = λ d e u v lt p q. let y = bound_by (m.index s k d) u p in let z = bound_by (m.index s k e) v q in omega (arith, t.never_fall d e y.0 z.0 lt y.1 z.1, y.2, z.2);
    }
