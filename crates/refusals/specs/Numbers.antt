-- The number of each refusal, with its condition. Contracts speak of a refusal through this definition.
use Rattle.std.specs.Prelude.{◌≡◌, ℕ, ◌≤◌, List, ◌++◌, codes}
use Rattle.std.specs.Fmt.{decimal}
use Rattle.refusals.specs.declared.Refusal.{Refusal}
use Rattle.refusals.specs.declared.Refusal.TheVariants.{SetupOutOfBounds, BufferTooShort, UnknownSite, UnknownParty, DayOutOfRange, NoSuchProfile, AlreadyRunning, NotServed, DayNotAllowed, NoSituation, SituationsFull, UnknownDial, IndexTooLarge, IndexAlreadyStands, IndexOutOfOrder, IndexesFull, NoIndex, CoverageDiffers, ValueOutOfBounds, MarksDiffer, TableNotAsMarked, FileEndsInsideRecord, UnknownLetter}

abbrev pub number_of : Refusal → ℕ
-- set-up outside the bounds for days, dates, parties or sites
number_of SetupOutOfBounds = 1
-- a list or buffer is shorter than what the call reads, writes or needs
number_of BufferTooShort = 2
-- the site is not below the number of sites
number_of UnknownSite = 3
-- the party is not below the number of parties
number_of UnknownParty = 4
-- the day lies past the horizon
number_of DayOutOfRange = 5
-- class and power are in no row of the profile table
number_of NoSuchProfile = 6
-- a running site is opened
number_of AlreadyRunning = 7
-- a site that is not served is modified, or one that never was is ended
number_of NotServed = 8
-- the day does not fit how the site stands
number_of DayNotAllowed = 9
-- no situation of the site starts on the day to be corrected
number_of NoSituation = 10
-- one more situation, and no place is free
number_of SituationsFull = 11
-- the dial is neither 1 nor 2
number_of UnknownDial = 12
-- the index is over 999,999,999 Wh
number_of IndexTooLarge = 13
-- an index already stands there
number_of IndexAlreadyStands = 14
-- the index lies below an earlier or above a later one of its dial
number_of IndexOutOfOrder = 15
-- one more index, and no place is free
number_of IndexesFull = 16
-- no index stands there to be struck
number_of NoIndex = 17
-- a source covers another number of half-hours, or lists to load are unequal or too long
number_of CoverageDiffers = 18
-- a threshold, or a number to load, is out of bounds
number_of ValueOutOfBounds = 19
-- two marks differ in half-hours or rows
number_of MarksDiffer = 20
-- a table does not add up to its mark, or has a cell that is too large
number_of TableNotAsMarked = 21
-- the file ends inside a record
number_of FileEndsInsideRecord = 22
-- the letter is none of the six
number_of UnknownLetter = 23

-- A number is one refusal's only, and lies between 1 and 23.
pub record Numbered : Type 0 where
  pub once : (a b : Refusal) → number_of a ≡ number_of b → a ≡ b
  pub bounded : (a : Refusal) → (1 ≤ number_of a) × (number_of a ≤ 23)

-- What a refusal prints.
abbrev pub text_of : Refusal → List ℕ
text_of r = codes "refused with " ++ decimal (number_of r)
