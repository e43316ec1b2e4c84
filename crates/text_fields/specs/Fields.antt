-- Numbers and dates as a line of text has them, byte by byte (48 to 57 are the digits, 45 is the hyphen).
use Rattle.std.specs.Prelude.{ℕ, ◌+◌, ◌-◌, ◌*◌, Bool, cond, ◌&&◌, List, [], ◌∷◌, length, take, drop, Some, None, Option, ◌==◌, nat_le, slice_index}
use Rattle.std.specs.List.{list_all}
use Rattle.calendar.specs.declared.CivilDate.{CivilDate}

abbrev pub digit : ℕ → Bool
digit b = nat_le 48 b && nat_le b 57

-- The number that digits write, read after the number so far.
abbrev pub value_after : ℕ → List ℕ → ℕ
value_after n [] = n
value_after n (b ∷ bs) = value_after (n * 10 + (b - 48)) bs

-- A number is one to nine digits.
abbrev pub decimal_of : List ℕ → Option ℕ
decimal_of bs = cond (nat_le 1 (length bs) && nat_le (length bs) 9 && list_all digit bs) (Some (value_after 0 bs)) None

abbrev pub dated : Option ℕ → Option ℕ → Option ℕ → Option CivilDate
dated None m d = None
dated (Some y) None d = None
dated (Some y) (Some m) None = None
dated (Some y) (Some m) (Some d) = Some (record { year = y; month = m; day = d })

abbrev pub day_shaped : List ℕ → Bool
day_shaped bs = length bs == 10 && slice_index bs 4 == 45 && slice_index bs 7 == 45

-- A day is written as four digits, a hyphen, two digits, a hyphen, two digits.
abbrev pub day_of : List ℕ → Option CivilDate
day_of bs =
    cond (day_shaped bs)
    (dated (decimal_of (take 4 bs)) (decimal_of (take 2 (drop 5 bs))) (decimal_of (take 2 (drop 8 bs)))) None
