-- What decides on a span: the situation of its days, the sub-profile of the dial, the weights and the factor.
use Rattle.std.specs.Prelude.{◌≡◌, ℕ, ◌<◌, ◌≤◌, true, cond, ◌&&◌, is_some, Some, None, Ok, Err, Option, Result, ◌==◌, nat_le}
use Rattle.factors.specs.Extremes.{extreme}
use Rattle.book_rules.specs.declared.Situation.{Situation}
use Rattle.span_rules.specs.Days.{serving, sub_profile_under}
use Rattle.spans.specs.declared.Anomaly.{Anomaly}
use Rattle.spans.specs.declared.Anomaly.TheVariants.{NoSituation, SeveralSituations, NoDial, ZeroWeight, ExtremeFactor}
use Rattle.spans.specs.declared.Grounds.{Grounds}

-- All days a to b - 1 lie in the situation y that starts on day c.
abbrev pub Throughout : (ℕ → Option Situation) → ℕ → ℕ → ℕ → Situation → Type 0
Throughout starting a b c y = (d : ℕ) → a ≤ d → d < b → serving starting d ≡ Some (c, y)

-- Some day has no situation; each has one, and on a day after the first another one starts.
pub record Gap (starting : ℕ → Option Situation) (a b : ℕ) : Type 0 where
  pub day : ℕ
  pub begun : a ≤ day
  pub not_over : day < b
  pub none : serving starting day ≡ None

pub record Change (starting : ℕ → Option Situation) (a b : ℕ) : Type 0 where
  pub served : (d : ℕ) → a ≤ d → d < b → is_some (serving starting d) ≡ true
  pub day : ℕ
  pub inside : a < day
  pub not_over : day < b
  pub starts : is_some (starting day) ≡ true

-- The situation in which all days lie, or why there is none such.
abbrev pub OneSituation : (ℕ → Option Situation) → ℕ → ℕ → Result Situation Anomaly → Type 0
OneSituation starting a b (Ok y) = (c : ℕ) × Throughout starting a b c y
OneSituation starting a b (Err NoSituation) = Gap starting a b
OneSituation starting a b (Err SeveralSituations) = Change starting a b
OneSituation starting a b (Err NoDial) = ⊥
OneSituation starting a b (Err ZeroWeight) = ⊥
OneSituation starting a b (Err ExtremeFactor) = ⊥

-- Party, power and sub-profile are those of the situation in which all days lie.
pub record Grounded (starting : ℕ → Option Situation) (dial a b : ℕ) (g : Grounds) : Type 0 where
  pub start : ℕ
  pub situation : Situation
  pub throughout : Throughout starting a b start situation
  pub party : g.party ≡ situation.terms.party
  pub power : g.power ≡ situation.terms.power
  pub sub_profile : sub_profile_under situation.terms dial ≡ Some g.sub_profile

pub record Lacking (starting : ℕ → Option Situation) (dial a b : ℕ) : Type 0 where
  pub start : ℕ
  pub situation : Situation
  pub throughout : Throughout starting a b start situation
  pub lacks : sub_profile_under situation.terms dial ≡ None

-- The grounds of a span, or the anomaly that it has for want of them.
abbrev pub GroundsTold : (ℕ → Option Situation) → ℕ → ℕ → ℕ → Result Grounds Anomaly → Type 0
GroundsTold starting dial a b (Ok g) = Grounded starting dial a b g
GroundsTold starting dial a b (Err NoSituation) = Gap starting a b
GroundsTold starting dial a b (Err SeveralSituations) = Change starting a b
GroundsTold starting dial a b (Err NoDial) = Lacking starting dial a b
GroundsTold starting dial a b (Err ZeroWeight) = ⊥
GroundsTold starting dial a b (Err ExtremeFactor) = ⊥

-- The anomaly of a span that has its grounds, by its energy e and the sum s of its weights; there is no sub-profile
-- past 7.
abbrev pub anomaly_by : ℕ → (ℕ → ℕ) → Grounds → ℕ → ℕ → Option Anomaly
anomaly_by k theta g e s =
    cond (s == 0) (Some ZeroWeight)
    (cond (nat_le g.sub_profile 7 && extreme k (theta g.sub_profile) g.power e s) (Some ExtremeFactor)
    None)

-- An anomaly is the error; without one all is well.
abbrev pub unless_found : Option Anomaly → Result (Unit {0}) Anomaly
unless_found None = Ok tt
unless_found (Some n) = Err n
