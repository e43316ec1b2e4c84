use Rattle.std.proofs.Common.{◌≡◌, ℕ, Option, sym, ap, ◌∙◌, subst, arith}
use Rattle.book_rules.specs.declared.Situation.{Situation}
use Rattle.span_rules.specs.Lasts.{later}
use Rattle.spans.proofs.Situations.{LookedAt, looked_none, looked_more, gap_here, one_situation, several, some_last}
use Rattle.spans.proofs.SiteDial.situation_throughout.Goals as goal

pub loop-day-init : goal.loop-day-init
loop-day-init c = looked_none _ _

pub loop-day-preserved : goal.loop-day-preserved
loop-day-preserved c =
    looked_more _ c.args.from c.loop-day.day c.loop-day.latest _ c.loop-day.invariant (c.latest_by-latest.ensures ∙ ap (λ (o : Option Situation). later c.loop-day.day o c.loop-day.latest) c.situation_starting.ensures)
    (sym c.is_gap.ensures ∙ c.if-is_gap.false)

pub returns-then-is_gap : goal.returns-then-is_gap
returns-then-is_gap c = λ lt.
    gap_here _ c.args.from c.loop-day.day c.loop-day.latest _ c.loop-day.invariant (c.latest_by-latest.ensures ∙ ap (λ (o : Option Situation). later c.loop-day.day o c.loop-day.latest) c.situation_starting.ensures)
    c.args.to c.loop-day-test.true (sym c.is_gap.ensures ∙ c.if-is_gap.true)

-- all days have been looked at
looked_at : (f : ℕ → Option Situation) (from day to : ℕ) (latest o : Option (ℕ × Situation)) → day ≡ to → latest ≡ o → LookedAt f from day latest → LookedAt f from to o
looked_at f from day to latest o end is h = subst (λ (n : ℕ). LookedAt f from n o) end (subst (LookedAt f from day) is h)

pub returns-in-Some : goal.returns-in-Some
returns-in-Some c = λ lt. (
  c.in-Some.start,
  one_situation _ c.args.from c.args.to c.in-Some.start c.in-Some.situation (looked_at _ c.args.from c.loop-day.day c.args.to _ _ (omega arith) c.in-Some.is c.loop-day.invariant) c.if-start-from.true,
)

pub returns-in-Some-2 : goal.returns-in-Some-2
returns-in-Some-2 c = λ lt.
    several _ c.args.from c.args.to c.in-Some.start c.in-Some.situation (looked_at _ c.args.from c.loop-day.day c.args.to _ _ (omega arith) c.in-Some.is c.loop-day.invariant) (omega (arith, c.if-start-from.false))

pub returns-in-None : goal.returns-in-None
returns-in-None c = λ lt. absurd (some_last _ c.args.from c.args.to (looked_at _ c.args.from c.loop-day.day c.args.to _ _ (omega arith) c.in-None.is c.loop-day.invariant) lt)
