-- The first and the last index, seen day by day. Assumes nothing.
use Rattle.std.proofs.Common.{◌≡◌, ℕ, zero, suc, ◌+◌, ◌<◌, ◌≤◌, Bool, true, false, cond, ltb, Some, None, Option, fold, refl, ap, ◌∙◌, subst, ⊎_elim, add-one, arith}
use Rattle.std.proofs.lemmas.Bool.{cases_lt, ltb-true, ltb-false}
use Rattle.std.specs.List.{range_with_len}
use Rattle.book.proofs.Counted.{fold_days}
use Rattle.span_rules.specs.Spans.{FirstIndex}
use Rattle.span_rules.proofs.Tracks.{differ}
use Rattle.spans.specs.Finding.{seen_with, two_of, WithinDays, DaysTold}

-- the first index and the latest before day n
pub record Both (on : ℕ → Option ℕ) (n : ℕ) (p : ℕ × ℕ) : Type 0 where
  pub u : ℕ
  pub v : ℕ
  pub first : FirstIndex on p.0 u
  pub stands : on p.1 ≡ Some v
  pub ordered : p.0 ≤ p.1
  pub early : p.1 < n
  pub none_later : (d : ℕ) → p.1 < d → d < n → on d ≡ None

abbrev pub Seen : (ℕ → Option ℕ) → ℕ → Option (ℕ × ℕ) → Type 0
Seen on n None = (d : ℕ) → d < n → on d ≡ None
Seen on n (Some p) = Both on n p

module _ (on : ℕ → Option ℕ) where
  -- one day more
  pub seen_more : (n : ℕ) (o : Option ℕ) (seen : Option (ℕ × ℕ)) → on n ≡ o → Seen on n seen → Seen on (n + 1) (seen_with n o seen)
  seen_more n None None e was = λ d lt. ⊎_elim {C = on d ≡ None} (λ (k : d < n). was d k) (λ (k : n ≤ d). let same : d ≡ n = omega arith in ap on same ∙ e) (cases_lt d n)
  seen_more n None (Some p) e was = record {
    u = was.u;
    v = was.v;
    first = was.first;
    stands = was.stands;
    ordered = was.ordered;
    early = omega (arith, was.early);
    none_later = λ d gt lt. ⊎_elim {C = on d ≡ None} (λ (k : d < n). was.none_later d gt k) (λ (k : n ≤ d). let same : d ≡ n = omega arith in ap on same ∙ e) (cases_lt d n);
  }
  seen_more n (Some w) None e was = record {
    u = w;
    v = w;
    first = record { stands = e; none_before = was };
    stands = e;
    ordered = omega arith;
    early = omega arith;
    none_later = λ d gt lt. absurd (omega arith);
  }
  seen_more n (Some w) (Some p) e was = record {
    u = was.u;
    v = w;
    first = was.first;
    stands = e;
    ordered = omega (arith, was.ordered, was.early);
    early = omega arith;
    none_later = λ d gt lt. absurd (omega arith);
  }

  -- what has been seen before day n
  unfoldable pub seen_before : ℕ → Option (ℕ × ℕ)
  seen_before zero = None
  seen_before (suc n) = seen_with n (on n) (seen_before n)

  seen_all : (n : ℕ) → Seen on n (seen_before n)
  unfolding seen_before
  seen_all zero = λ d lt. absurd (omega arith)
  seen_all (suc n) = subst (λ (k : ℕ). Seen on k (seen_before (suc n))) (add-one n) (seen_more n (on n) (seen_before n) refl (seen_all n))

  pub walked : (n : ℕ) → fold (λ s d. seen_with d (on d) s) None (range_with_len 0 n) ≡ seen_before n
  unfolding seen_before
  walked n = fold_days seen_before (λ s d. seen_with d (on d) s) (λ k. refl) n

  -- the days of the first index and the last, where no index stands past the days
  told : (days : ℕ) (r : Option (ℕ × ℕ)) → Seen on (days + 1) r → WithinDays on days → DaysTold on (two_of r)
  told days None h within = λ a b u v lt fa fb. differ _ fb (by b)
    where
      by : (b : ℕ) → on b ≡ None
      by b = ⊎_elim {C = on b ≡ None} (λ (k : b < days + 1). h b k) (λ (k : days + 1 ≤ b). within b (omega arith)) (cases_lt b (days + 1))
  told days (Some p) h within = by (ltb p.0 p.1) refl
    where
      after : (d : ℕ) → p.1 < d → on d ≡ None
      after d gt = ⊎_elim {C = on d ≡ None} (λ (k : d < days + 1). h.none_later d gt k) (λ (k : days + 1 ≤ d). within d (omega arith)) (cases_lt d (days + 1))

      by : (t : Bool) → ltb p.0 p.1 ≡ t → DaysTold on (cond t (Some p) None)
      by true e = (h.u, h.v, record { first = h.first; last = record { stands = h.stands; none_after = after }; apart = ltb-true p.0 p.1 e })
      by false e = λ a b u v lt fa fb.
          ⊎_elim {C = ⊥}
          (λ (early : a < p.0). differ _ fa (h.first.none_before a early))
          (λ (late : p.0 ≤ a). differ _ fb (after b (omega (arith, ltb-false p.0 p.1 e))))
          (cases_lt a p.0)

  pub days_told : (days : ℕ) → WithinDays on days → DaysTold on (two_of (seen_before (days + 1)))
  days_told days within = told days (seen_before (days + 1)) (seen_all (days + 1)) within
