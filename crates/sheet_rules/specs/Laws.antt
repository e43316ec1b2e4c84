-- Sheets of one history.
use Rattle.std.specs.Prelude.{◌≡◌, ℕ, ◌<◌, List, ℤ}
use Rattle.factors.specs.declared.Thresholds.{Thresholds}
use Rattle.book_rules.specs.declared.Call.{Call}
use Rattle.book_rules.specs.Contents.{Setup, Contents}
use Rattle.book_rules.specs.Telling.{Told}
use Rattle.sheet_rules.specs.Rows.{rows, half_hours}
use Rattle.sheet_rules.specs.Account.{Account}

-- Two sheets of books that stand for the same history, by the same weights and thresholds, hold the same.
abbrev pub OneSheet : {X : Type 0} → X → (ℕ → ℕ → X) → (X → X → X) → (X → ℤ) → Type 0
OneSheet {X} nil piece joined energy =
    (u : Setup) (h : List Call) (m n : Contents) (w : ℕ → ℕ → ℕ) (th : Thresholds) (cell other : ℕ → ℕ → X) → Told u h m → Told u h n
    → Account nil piece joined energy u m w th cell → Account nil piece joined energy u n w th other → (r t : ℕ) → r < rows u → t < half_hours u → cell r t ≡ other r t
