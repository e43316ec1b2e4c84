-- After any calls situations and indexes are in order. Assumes nothing.
use Rattle.std.proofs.Common.{◌≡◌, ℕ, ◌<◌, ◌≤◌, true, false, cond, ◌&&◌, eqb, ◌⊎◌, Some, None, Err, Option, sym, refl, ◌∙◌, subst, inl, inr, ⊎_elim, arith}
use mathlib.Core.Path.{fun_ext}
use Rattle.std.proofs.lemmas.Bool.{cases_eq, cases_Bool, eqb-true, cond-false, and_parts}
use Rattle.std.proofs.lemmas.Bool.Decides.{nat_tests}
use Rattle.refusals.specs.declared.Refusal.TheVariants.{NoSuchProfile}
use Rattle.profiles.specs.Table.{profile_of}
use Rattle.book_rules.specs.declared.Terms.{Terms}
use Rattle.book_rules.specs.declared.Situation.{Situation}
use Rattle.book_rules.specs.declared.Index.{Index}
use Rattle.book_rules.specs.declared.Standing.{Standing}
use Rattle.book_rules.specs.declared.Call.{Call}
use Rattle.book_rules.specs.declared.Call.TheVariants.{Open}
use Rattle.book_rules.specs.Contents.{Setup, Contents, Last, Stands, never, running, ended}
use Rattle.book_rules.specs.Refusing.{Applies, no_site, no_party, no_day, no_profile, open_running, modify_ended, open_early, modify_early, end_early, end_again_early, no_dial, enter_large, enter_below, enter_above}
use Rattle.book_rules.specs.Telling.{Situated, Indexed, SameSituations, SameIndexes, Acts, opens, modifies, ends, corrects, enters, strikes, begun, ended_on, at_first, after}
use Rattle.book_rules.specs.Laws.{Chain, Track, KnownSituation, KnownDial, Orderly, AlwaysOrderly}
use Rattle.book_rules.specs.Tests.{standing_by}
use Rattle.book_rules.proofs.Keys.{not_none, nothing, Changed, changed_by}
use Rattle.book_rules.proofs.Chains.{Free, chain_open, chain_end, free_after, chain_correct, free_ended, track_enter, track_strike, chain_none, track_none}
use Rattle.book_rules.proofs.Standings.{stands_by}

under : (a b : ℕ) → (b ≤ a → ⊥) → a < b
under a b h = omega arith

at_most : (a b : ℕ) → (b < a → ⊥) → a ≤ b
at_most a b h = omega arith

module _ (m n : Contents) (s d : ℕ) (x : Situation) (f : Situated m n s d x) where
  at_site : Changed d (Some x) (m.situation s) (n.situation s)
  at_site = changed_by d (Some x) (m.situation s) (n.situation s) (λ b. let e = f s b in grind (arith, nat_tests))

  off_site : (a : ℕ) → (a ≡ s → ⊥) → n.situation a ≡ m.situation a
  off_site a ne = fun_ext (λ b. let e = f a b in grind (arith, nat_tests))

  -- what is held now is the new one or was held before
  situated : (a b : ℕ) (y : Situation) → n.situation a b ≡ Some y → ((a ≡ s) × (x ≡ y)) ⊎ (m.situation a b ≡ Some y)
  situated a b y h = let e = f a b in grind (arith, nat_tests)

  -- a chain at the site makes chains everywhere
  chains_from : (u : Setup) → Orderly u m → Chain u.days (n.situation s) → (a : ℕ) → Chain u.days (n.situation a)
  chains_from u o ch a =
      ⊎_elim {C = Chain u.days (n.situation a)}
      (λ (e : a ≡ s). subst (λ (z : ℕ). Chain u.days (n.situation z)) (sym e) ch)
      (λ (e : a ≡ s → ⊥). subst (Chain u.days) (sym (off_site a e)) (o.chains a))
      (cases_eq a s)

  known_from : (u : Setup) → Orderly u m → KnownSituation u s x → (a b : ℕ) (y : Situation) → n.situation a b ≡ Some y → KnownSituation u a y
  known_from u o k a b y h =
      ⊎_elim {C = KnownSituation u a y}
      (λ (e : (a ≡ s) × (x ≡ y)). subst (λ (z : ℕ). KnownSituation u z y) (sym e.0) (subst (KnownSituation u s) e.1 k))
      (λ (e : m.situation a b ≡ Some y). o.known_situations a b y e)
      (situated a b y h)

module _ (m n : Contents) (same : SameIndexes m n) where
  tracks_kept : (u : Setup) → Orderly u m → (a k : ℕ) → Track u.days (n.index a k)
  tracks_kept u o a k = subst (Track u.days) (sym (fun_ext (λ e. same.0 a k e))) (o.tracks a k)

  dials_kept : (u : Setup) → Orderly u m → (a k d : ℕ) (x : Index) → n.index a k d ≡ Some x → KnownDial u a k
  dials_kept u o a k d x h = o.known_dials a k d x (sym (same.0 a k d) ∙ h)

module _ (m n : Contents) (same : SameSituations m n) where
  chains_kept : (u : Setup) → Orderly u m → (a : ℕ) → Chain u.days (n.situation a)
  chains_kept u o a = subst (Chain u.days) (sym (fun_ext (λ b. same.0 a b))) (o.chains a)

  situations_kept : (u : Setup) → Orderly u m → (a b : ℕ) (x : Situation) → n.situation a b ≡ Some x → KnownSituation u a x
  situations_kept u o a b x h = o.known_situations a b x (sym (same.0 a b) ∙ h)

module _ (m n : Contents) (s k d : ℕ) (x : Option Index) (f : Indexed m n s k d x) where
  at_dial : Changed d x (m.index s k) (n.index s k)
  at_dial = changed_by d x (m.index s k) (n.index s k) (λ e. let h = f s k e in grind (arith, nat_tests))

  off_dial : (a b : ℕ) → ((a ≡ s) × (b ≡ k) → ⊥) → n.index a b ≡ m.index a b
  off_dial a b ne = fun_ext (λ e. let h = f a b e in grind (arith, nat_tests))

  tracks_from : (u : Setup) → Orderly u m → Track u.days (n.index s k) → (a b : ℕ) → Track u.days (n.index a b)
  tracks_from u o tr a b =
      ⊎_elim {C = Track u.days (n.index a b)}
      (λ (p : a ≡ s).
      ⊎_elim {C = Track u.days (n.index a b)}
      (λ (q : b ≡ k). subst (λ (z : ℕ). Track u.days (n.index z b)) (sym p) (subst (λ (z : ℕ). Track u.days (n.index s z)) (sym q) tr))
      (λ (q : b ≡ k → ⊥). subst (Track u.days) (sym (off_dial a b (λ r. q r.1))) (o.tracks a b))
      (cases_eq b k))
      (λ (p : a ≡ s → ⊥). subst (Track u.days) (sym (off_dial a b (λ r. p r.0))) (o.tracks a b))
      (cases_eq a s)

  dials_from : (u : Setup) → Orderly u m → KnownDial u s k → (a b e : ℕ) (y : Index) → n.index a b e ≡ Some y → KnownDial u a b
  dials_from u o kn a b e y h =
      ⊎_elim {C = KnownDial u a b}
      (λ (t : (eqb s a && (eqb k b && eqb d e)) ≡ true).
      let p = and_parts _ _ t in let q = and_parts _ _ p.1 in
      subst (λ (z : ℕ). KnownDial u z b) (eqb-true s a p.0) (subst (KnownDial u s) (eqb-true k b q.0) kn))
      (λ (t : (eqb s a && (eqb k b && eqb d e)) ≡ false). o.known_dials a b e y (sym (f a b e ∙ cond-false _ _ _ t) ∙ h))
      (cases_Bool (eqb s a && (eqb k b && eqb d e)))

-- a site that may be opened on a day is free by then
may_open : (u : Setup) (m : Contents) (s d : ℕ) (t : Terms) → Orderly u m → ((j : ℕ) → Applies u m (Open s d t) j → ⊥) → Free (m.situation s) d
may_open u m s d t o none = by (standing_by f u.days) (stands_by f u.days past)
  where
    f : ℕ → Option Situation
    f = m.situation s

    past : (c : ℕ) → u.days ≤ c → m.situation s c ≡ None
    past c le = nothing (m.situation s c) (λ x e. let w = (o.chains s).starts_within c x e in omega arith)

    by : (z : Standing) → Stands (m.situation s) z → Free (m.situation s) d
    by z (never p) = λ b x h. absurd (not_none (m.situation s b) h (p b))
    by z (running {b} {x} l e) = absurd (none 7 (open_running {b = b} (running l e)))
    by z (ended {b} {e} {x} l q) = free_ended u.days (m.situation s) (o.chains s) d b e x l q (at_most e d (λ lt. none 9 (open_early {b = b} {e = e} (ended l q) lt)))

-- what a call with terms gives
given : (u : Setup) (s : ℕ) (x : Situation) → (u.sites ≤ s → ⊥) → (u.parties ≤ x.terms.party → ⊥) → (profile_of x.terms.class x.terms.power ≡ Err NoSuchProfile → ⊥) → KnownSituation u s x
given u s x a b c = record { site = under s u.sites a; party = under x.terms.party u.parties b; profile = c }

-- a situation starts where all have ended
after_opening : (u : Setup) (m n : Contents) (s d : ℕ) (t : Terms) → Orderly u m → d < u.days → Free (m.situation s) d → KnownSituation u s (begun t) → Situated m n s d (begun t) → SameIndexes m n → Orderly u n
after_opening u m n s d t o lt free known f same = record {
  chains = chains_from m n s d (begun t) f u o (chain_open u.days (m.situation s) (n.situation s) (o.chains s) d t lt free (at_site m n s d (begun t) f));
  tracks = tracks_kept m n same u o;
  known_situations = known_from m n s d (begun t) f u o known;
  known_dials = dials_kept m n same u o;
}

-- the last one ends
after_ending : (u : Setup) (m n : Contents) (s d b : ℕ) (x : Situation) → Orderly u m → Last (m.situation s) b x → b < d → d ≤ u.days → Situated m n s b (ended_on d x) → SameIndexes m n → Orderly u n
after_ending u m n s d b x o l lt le f same = record {
  chains = chains_from m n s b (ended_on d x) f u o (chain_end u.days (m.situation s) (n.situation s) (o.chains s) d b x l lt le (at_site m n s b (ended_on d x) f));
  tracks = tracks_kept m n same u o;
  known_situations = known_from m n s b (ended_on d x) f u o (let k = o.known_situations s b x l.starts in record { site = k.site; party = k.party; profile = k.profile });
  known_dials = dials_kept m n same u o;
}

acted : (u : Setup) (m n : Contents) (c : Call) → Orderly u m → ((j : ℕ) → Applies u m c j → ⊥) → Acts m n c → Orderly u n
acted u m n c o none (opens {s} {d} {t} f count same) =
    after_opening u m n s d t o (under d u.days (λ h. none 5 (no_day h))) (may_open u m s d t o none)
    (given u s (begun t) (λ h. none 3 (no_site h)) (λ h. none 4 (no_party h)) (λ h. none 6 (no_profile h))) f same
acted u m n c o none (modifies {s} {d} {b} {t} {x} l f count same) =
    after_opening u between n s d t (after_ending u m between s d b x o l later (omega (arith, lt)) (λ a e. refl) ((λ a k e. refl), refl)) lt
    (free_after u.days (m.situation s) (between.situation s) (o.chains s) d b x l later (at_site m between s b (ended_on d x) (λ a e. refl)))
    (given u s (begun t) (λ h. none 3 (no_site h)) (λ h. none 4 (no_party h)) (λ h. none 6 (no_profile h))) f same
  where
    -- what is held once the running one has ended
    between : Contents
    between = record { situation = λ a e. cond (eqb s a && eqb b e) (Some (ended_on d x)) (m.situation a e); index = m.index; situations = m.situations; indexes = m.indexes }

    lt : d < u.days
    lt = under d u.days (λ h. none 5 (no_day h))

    by_end : (z : Option ℕ) → x.end ≡ z → b < d
    by_end None e = under b d (λ h. none 9 (modify_early {b = b} (running l e) h))
    by_end (Some z) e = absurd (none 8 (modify_ended {b = b} {e = z} (ended l e)))

    later : b < d
    later = by_end x.end refl
acted u m n c o none (ends {s} {d} {b} {x} l f count same) =
    after_ending u m n s d b x o l (by_end x.end refl) (at_most d u.days (λ h. none 5 (no_day h))) f same
  where
    by_end : (z : Option ℕ) → x.end ≡ z → b < d
    by_end None e = under b d (λ h. none 9 (end_early {b = b} (running l e) h))
    by_end (Some z) e = under b d (λ h. none 9 (end_again_early {b = b} {e = z} (ended l e) h))
acted u m n c o none (corrects {s} {d} {t} {x} at f count same) = record {
  chains = chains_from m n s d (record { end = x.end; terms = t }) f u o (chain_correct u.days (m.situation s) (n.situation s) (o.chains s) d t x at (at_site m n s d (record { end = x.end; terms = t }) f));
  tracks = tracks_kept m n same u o;
  known_situations = known_from m n s d (record { end = x.end; terms = t }) f u o (given u s (record { end = x.end; terms = t }) (λ h. none 3 (no_site h)) (λ h. none 4 (no_party h)) (λ h. none 6 (no_profile h)));
  known_dials = dials_kept m n same u o;
}
acted u m n c o none (enters {s} {k} {d} {v} f count same) = record {
  chains = chains_kept m n same u o;
  tracks = tracks_from m n s k d _ f u o
      (track_enter u.days (m.index s k) (n.index s k) (o.tracks s k) d v (at_most d u.days (λ h. none 5 (no_day h))) (at_most v 999999999 (λ h. none 13 (enter_large h)))
      (λ e y lt h. at_most y.value v (λ q. none 15 (enter_below {e = e} {x = y} lt h q))) (λ e y lt h. at_most v y.value (λ q. none 15 (enter_above {e = e} {x = y} lt h q)))
      (at_dial m n s k d _ f));
  known_situations = situations_kept m n same u o;
  known_dials = dials_from m n s k d _ f u o (record { site = under s u.sites (λ h. none 3 (no_site h)); least = at_most 1 k (λ h. none 12 (no_dial (inl h))); most = at_most k 2 (λ h. none 12 (no_dial (inr h))) });
}
acted u m n c o none (strikes {s} {k} {d} f count same) = record {
  chains = chains_kept m n same u o;
  tracks = tracks_from m n s k d None f u o (track_strike u.days (m.index s k) (n.index s k) (o.tracks s k) d (at_dial m n s k d None f));
  known_situations = situations_kept m n same u o;
  known_dials = dials_from m n s k d None f u o (record { site = under s u.sites (λ h. none 3 (no_site h)); least = at_most 1 k (λ h. none 12 (no_dial (inl h))); most = at_most k 2 (λ h. none 12 (no_dial (inr h))) });
}

pub always_orderly : AlwaysOrderly
always_orderly u h m (at_first _ e) = record {
  chains = λ s. chain_none u.days (m.situation s) (e.no_situation s);
  tracks = λ s k. track_none u.days (m.index s k) (e.no_index s k);
  known_situations = λ s b x q. absurd (not_none (m.situation s b) q (e.no_situation s b));
  known_dials = λ s k d x q. absurd (not_none (m.index s k d) q (e.no_index s k d));
}
always_orderly u k n (after h c (Some j) m _ t s) = subst (Orderly u) (sym s.1) (always_orderly u h m t)
always_orderly u k n (after h c None m _ t s) = acted u m n c (always_orderly u h m t) s.0 s.1
