-- What is told of a span: the account to which its energy goes, and the weights by which it is shared.
use Rattle.std.specs.Prelude.{◌≡◌, ℕ, ◌+◌, ◌-◌, ◌*◌, ◌<◌, ◌≤◌, List, Some, None, Ok, Err, Option, Result, slice_index}
use Rattle.sharing.specs.Shares.{before}
use Rattle.book_rules.specs.declared.Situation.{Situation}
use Rattle.book.specs.Books.{contents}
use Rattle.span_rules.specs.Days.{Metering, metering, serving, from}
use Rattle.span_rules.specs.Anomalies.{FirstAnomaly}
use Rattle.span_rules.specs.Figures.{used}
use Rattle.spans.specs.declared.Anomaly.{Anomaly}
use Rattle.spans.specs.Numbers.{number_of}
use Rattle.judgements.specs.declared.MeteredDial.{MeteredDial}
use Rattle.judgements.specs.declared.Judgement.{Judgement}

-- What a dial of a site in a book is metered by: the dial's situations and indexes as the book holds them, the weights of
-- the source, and the thresholds.
abbrev pub meaning : {S : Type 0} → (S → ℕ → ℕ → ℕ) → MeteredDial S → Metering
meaning weighs d = metering (contents d.at.book.now) (weighs d.source.now) d.thresholds.now d.at.site d.at.dial

-- An account is a party's, or that of an anomaly. The anomaly, by its number; none where the account is a party's.
abbrev pub anomaly_in : Result ℕ Anomaly → Option ℕ
anomaly_in (Ok p) = None
anomaly_in (Err n) = Some (number_of n)

-- The row of an account on a sheet: the parties come first, then A1 to A5.
abbrev pub row_of : ℕ → Result ℕ Anomaly → ℕ
row_of parties (Ok p) = p
row_of parties (Err n) = parties + number_of n - 1

-- The first places hold the weights w of the n half-hours from first on, which add to s.
pub record WeighedInto (w : ℕ → ℕ) (first n : ℕ) (weights : List ℕ) (s : ℕ) : Type 0 where
  pub places : (i : ℕ) → i < n → slice_index weights i ≡ w (first + i)
  pub sum : s ≡ before (from w first) n

-- The weights w of the half-hours from first to end - 1 stand in their places, and add to s.
pub record Weighed (w : ℕ → ℕ) (first end : ℕ) (weights : List ℕ) (s : ℕ) : Type 0 where
  pub places : (t : ℕ) → first ≤ t → t < end → slice_index weights t ≡ w t
  pub sum : s ≡ before (from w first) (end - first)

-- The situation of each of the days a to b - 1 is one of this party.
abbrev pub OfParty : Metering → ℕ → ℕ → ℕ → Type 0
OfParty x a b p = (d : ℕ) → a ≤ d → d < b → (c : ℕ) × (y : Situation) × (serving x.starting d ≡ Some (c, y)) × (y.terms.party ≡ p)

-- The weights used under an account stand in the places of the span's half-hours, and add to s.
abbrev pub WeighedFor : Metering → ℕ → ℕ → Option ℕ → List ℕ → ℕ → Type 0
WeighedFor x a b n weights s = Weighed (used x n) (48 * a) (48 * b) weights s

-- Of a span that has no anomaly, its party and the sum of its weights; of another, its first anomaly.
abbrev pub OwnWeights : Metering → ℕ → ℕ → ℕ → List ℕ → Result (ℕ × ℕ) Anomaly → Type 0
OwnWeights x a b e weights (Ok r) = FirstAnomaly x a b e None × OfParty x a b r.0 × WeighedFor x a b None weights r.1
OwnWeights x a b e weights (Err n) = FirstAnomaly x a b e (Some (number_of n))

-- The party of an account is that of the span's days.
abbrev pub PartyOf : Metering → ℕ → ℕ → Result ℕ Anomaly → Type 0
PartyOf x a b (Ok p) = OfParty x a b p
PartyOf x a b (Err n) = Unit {0}

-- The judgement on a span of energy e over the days a to b - 1, with its weights in their places.
pub record JudgedSo (x : Metering) (a b e : ℕ) (weights : List ℕ) (j : Judgement) : Type 0 where
  pub first : FirstAnomaly x a b e (anomaly_in j.account)
  pub party : PartyOf x a b j.account
  pub weighed : WeighedFor x a b (anomaly_in j.account) weights j.all
  pub bound : j.all ≤ 1680000000
