-- A table drawn dial by dial comes to hold the account. Assumes nothing.
use Rattle.std.proofs.Common.{◌≡◌, ℕ, ◌+◌, ◌-◌, ◌*◌, ◌^◌, ◌<◌, ◌≤◌, cond, eqb, List, get_or, ℤ, Some, None, Option, sym, refl, ap, ◌∙◌, subst, arith}
use Rattle.amounts.specs.Laws.{Joining}
use Rattle.factors.specs.declared.Thresholds.{Thresholds}
use Rattle.book_rules.specs.declared.Situation.{Situation}
use Rattle.book_rules.specs.declared.Call.{Call}
use Rattle.book_rules.specs.Contents.{Setup, Contents}
use Rattle.book_rules.specs.Telling.{Told}
use Rattle.book_rules.proofs.Orders.{always_orderly}
use Rattle.span_rules.specs.Days.{Metering, metering}
use Rattle.span_rules.specs.Figures.{Judged, figure_in}
use Rattle.span_rules.proofs.Judging.{one_judgement}
use Rattle.span_rules.proofs.Steps.{Tracked, tracked}
use Rattle.sheet_rules.specs.Rows.{rows, half_hours, InCell}
use Rattle.sheet_rules.specs.Drawing.{Room, with_piece, DialDrawn}
use Rattle.sheet_rules.specs.Account.{Account}
use Rattle.sheet_rules.proofs.There.{place, figure_at, placed, is_placed, in_some_row, curve_at, row_within}
use Rattle.sheet_rules.proofs.Dials.{dial, place_of, add, added, added_none, added_more, added_size}
use Rattle.sheet_rules.proofs.Cells.{row_before}
use Rattle.sheet_rules.proofs.Accounts.{account}

module _ {K X : Type 0} (holds : K → X) {nil : X} {piece : ℕ → ℕ → X} {joined : X → X → X} {energy : X → ℤ} {size : X → ℕ} (laws : Joining nil piece joined energy size) (u : Setup) (m : Contents) (w : ℕ → ℕ → ℕ) (th : Thresholds) (h : List Call) (told : Told u h m) where
  abbrev pub of : ℕ → ℕ → Metering
  of s k = metering m w th s k

  abbrev pub track : (s k : ℕ) → Tracked u.days (of s k).on
  track s k = tracked u h m told s k

  known : (s c : ℕ) (y : Situation) → m.situation s c ≡ Some y → y.terms.party < u.parties
  known s c y e = ((always_orderly u h m told).known_situations s c y e).party

  -- the table holds the pieces of the first n dials
  pub HoldsPieces : ℕ → List K → Type 0
  HoldsPieces n cells = (r t : ℕ) → r < rows u → t < half_hours u → (d : K) → holds (get_or cells (r * half_hours u + t) d) ≡ added u.parties u.days of track laws r t n

  pub pieces_none : (cells : List K) → ((p : ℕ) → p < rows u * half_hours u → (d : K) → holds (get_or cells p d) ≡ nil) → HoldsPieces 0 cells
  unfolding HoldsPieces
  pieces_none cells cleared r t row half d =
      cleared (r * half_hours u + t) (omega (arith, row_before r (rows u) (half_hours u) row)) d ∙ sym (added_none u.parties u.days of track laws r t)

  -- one dial's pass joins its piece, where it has one
  dial_adds : (s k : ℕ) (old new : List K) → DialDrawn holds size piece joined u.parties (rows u) (half_hours u) (of s k) u.days u.days old new
      → (r t : ℕ) → r < rows u → t < half_hours u → (d : K) → Room (size (holds (get_or old (r * half_hours u + t) d)))
      → holds (get_or new (r * half_hours u + t) d) ≡ add u.parties u.days of track laws r k (place u.parties u.days (of s k) (track s k) t) (holds (get_or old (r * half_hours u + t) d))
  dial_adds s k old new drawn r t row half d space = by (place u.parties u.days (of s k) (track s k) t) refl
    where
      by : (o : Option (ℕ × ℕ)) → place u.parties u.days (of s k) (track s k) t ≡ o → holds (get_or new (r * half_hours u + t) d) ≡ add u.parties u.days of track laws r k o (holds (get_or old (r * half_hours u + t) d))
      by None e =
          ap holds (drawn.elsewhere t half (λ a b p q z early le lies.
          let n = one_judgement.some (of s k) a b (q - p) in
          let c = in_some_row u.parties u.days (of s k) (track s k) a b p q n.0 (record { span = z; first = n.1 }) t lies in
          differs (sym (is_placed u.parties u.days (of s k) (track s k) t c.0 c.1) ∙ e)) r row d)
        where
          differs : {v : ℕ × ℕ} → Some v ≡ None → ⊥
          differs z = let y : ◌≡◌ {A = ℕ} 0 1 = cc in omega arith
      by (Some p) e =
          let there = placed u.parties u.days (of s k) (track s k) t p.0 p.1 e in
          let c = there.0 in
          let figure : figure_in (of s k) c.a c.b (c.v - c.u) c.n t ≡ p.1 = sym ((curve_at u.parties u.days (of s k) (track s k)).in_spans c.a c.b c.u c.v c.n c.judged t c.lies) ∙ sym there.1 in
          let last = c.judged.span.last in
          drawn.in_spans c.a c.b c.u c.v c.n p.0 c.judged (omega (arith, c.judged.span.forward, (track s k).within c.b c.v last)) ((track s k).within c.b c.v last) ((track s k).bounded c.b c.v last) c.row
          (row_within u.parties u.days (of s k) (track s k) (known s) p.0 t c) t c.lies r row d space
          ∙ ap (λ (z : ℕ). cond (eqb p.0 r) (joined (holds (get_or old (r * half_hours u + t) d)) (piece z k)) (holds (get_or old (r * half_hours u + t) d))) figure

  pub pieces_more : (j s k : ℕ) (old new : List K) → j ≤ 512 → ◌≡◌ {A = ℕ × ℕ} (dial j) (s, k) → DialDrawn holds size piece joined u.parties (rows u) (half_hours u) (of s k) u.days u.days old new → HoldsPieces j old → HoldsPieces (j + 1) new
  unfolding HoldsPieces
  pieces_more j s k old new few is drawn was r t row half d =
      let x = get_or old (r * half_hours u + t) d in
      let y = added u.parties u.days of track laws r t j in
      let small = added_size u.parties u.days of track laws r t j (omega arith) in
      let space : Room (size (holds x)) = subst (λ (z : X). Room (size z)) (sym (was r t row half d)) (omega arith) in
      dial_adds s k old new drawn r t row half d space
      ∙ (ap (add u.parties u.days of track laws r k (place u.parties u.days (of s k) (track s k) t)) (was r t row half d)
      ∙ (ap (λ (z : ℕ × ℕ). add u.parties u.days of track laws r z.1 (place u.parties u.days (of z.0 z.1) (track z.0 z.1) t) y) (sym is)
      ∙ sym (added_more u.parties u.days of track laws r t j)))

  -- all dials drawn: the account
  pub table_account : u.sites ≤ 256 → (cells : List K) → HoldsPieces (2 * u.sites) cells → (d : K) → Account nil piece joined energy u m w th (λ r t. holds (get_or cells (r * half_hours u + t) d))
  unfolding HoldsPieces
  table_account few cells all d = account laws u h m told few w th (λ r t. holds (get_or cells (r * half_hours u + t) d)) (λ r t row half. all r t row half d)
