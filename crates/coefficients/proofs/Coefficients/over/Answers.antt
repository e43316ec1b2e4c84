use Rattle.std.proofs.Common.{◌≡◌, ℕ, ◌+◌, ◌-◌, ◌*◌, ◌/◌, ◌%◌, ◌<◌, ◌≤◌, false, List, length, take, sym, ap, ◌∙◌, subst, arith}
use Rattle.std.proofs.lemmas.List.{get_or-take}
use Rattle.std.proofs.lemmas.Grind.{common_steps}
use Rattle.std.proofs.Math.Bool.{and-false}
use Rattle.calendar.specs.declared.Place.{Place}
use Rattle.calendar.specs.Places.{place_at}
use Rattle.calendar.proofs.Calendar.{week_bound, day_bound}
use Rattle.coefficients.specs.Weights.{InYear, good_horizon, coefficient_weight}
use Rattle.coefficients.proofs.Coefficients.over.Goals as goal
use Rattle.coefficients.proofs.Coefficients.over.Goals.{in_default-via-in-None-1, in_default-via-in-Some+else-is_good_horizon}

-- each date's place lies in the profile year
date_in_year : (hs : List ℕ) (x : ℕ) → InYear (place_at hs x)
date_in_year hs x = record {
  week_low = (week_bound x).0;
  week_high = (week_bound x).1;
  day_low = (day_bound hs x).0;
  day_high = (day_bound hs x).1;
}

-- the first 3,160 coefficients weigh as the whole list does
same_weight : (xs : List ℕ) (place : Place) (sub h : ℕ) → InYear place → sub ≤ 7 → h < 48 → coefficient_weight (take 3160 xs) place sub h ≡ coefficient_weight xs place sub h
same_weight xs place sub h year s t =
    let week = get_or-take 3160 xs (395 * sub + (place.week - 1)) 0 (omega arith) in
    let day = get_or-take 3160 xs (395 * sub + 52 + (place.day - 1)) 0 (omega arith) in
    let half = get_or-take 3160 xs (395 * sub + 59 + 48 * (place.day - 1) + h) 0 (omega arith) in
    cc

pub invariant_of-result : goal.invariant_of-result
invariant_of-result c = record {
  placed = λ k h. subst InYear (sym (c.places_of.ensures.placed k (omega arith))) (date_in_year c.args.holidays.now (c.args.first + k));
}

pub returns-clause-weighs : goal.returns-clause-weighs
returns-clause-weighs c = λ sub t low under.
    let list = c.args.list.now in let hs = c.args.holidays.now in let x = c.args.first + t / 48 in
    let placed = c.places_of.ensures.placed (t / 48) (omega arith) in
    let year = date_in_year hs x in
    ap (λ (p : Place). coefficient_weight c.in-Some.own.now p sub (t % 48)) placed
    ∙ (ap (λ (l : List ℕ). coefficient_weight l (place_at hs x) sub (t % 48)) c.in-Some.ensures.1 ∙ same_weight list (place_at hs x) sub (t % 48) year low (omega arith))

pub returns-2-clause-covers : goal.returns-2-clause-covers
returns-2-clause-covers c =
    elim c.in_default.branch [
      | in_default-via-in-None-1 w ↦ grind (arith, common_steps)
      | in_default-via-in-Some+else-is_good_horizon w ↦
          let bad : good_horizon c.args.first c.args.days ≡ false = sym w.if-is_good_horizon.ensures.value in
          ap length c.new.ensures ∙ simp (bad, and-false)
    ]
