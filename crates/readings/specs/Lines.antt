-- A reading as a line of text has it: a day, a space, and the index at the start of that day.
use Rattle.std.specs.Prelude.{ℕ, Bool, cond, ◌&&◌, List, length, take, drop, Some, None, Ok, Err, Option, Result, ◌==◌, nat_lt, slice_index}
use Rattle.calendar.specs.declared.CivilDate.{CivilDate}
use Rattle.calendar.specs.Dates.{date_of}
use Rattle.text_fields.specs.Fields.{day_of, decimal_of}
use Rattle.readings.specs.declared.Problem.{Problem}
use Rattle.readings.specs.declared.Problem.TheVariants.{NotAReading, NoSuchDay}
use Rattle.readings.specs.declared.Reading.{Reading}

-- The calendar's date for the day, with the index.
abbrev pub on_date : Option ℕ → ℕ → Result Reading Problem
on_date None index = Err NoSuchDay
on_date (Some date) index = Ok (record { date = date; index = index })

abbrev pub of_fields : Option CivilDate → Option ℕ → Result Reading Problem
of_fields None index = Err NotAReading
of_fields (Some day) None = Err NotAReading
of_fields (Some day) (Some index) = on_date (date_of day) index

-- Byte 10 is the space (32).
abbrev pub reading_shaped : List ℕ → Bool
reading_shaped line = nat_lt 10 (length line) && slice_index line 10 == 32

-- The day stands before the space and the index after it.
abbrev pub reading_of : List ℕ → Result Reading Problem
reading_of line = cond (reading_shaped line) (of_fields (day_of (take 10 line)) (decimal_of (drop 11 line))) (Err NotAReading)
