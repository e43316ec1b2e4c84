-- Threshold sets: k, and one theta for each sub-profile, in ten-thousandths.
use Rattle.std.specs.Prelude.{ℕ, Bool, cond, ◌&&◌, List, length, take, Some, None, Option, nat_le, nat_lt}
use Rattle.std.specs.List.{list_all}
use Rattle.refusals.specs.declared.Refusal.{Refusal}
use Rattle.refusals.specs.declared.Refusal.TheVariants.{BufferTooShort, ValueOutOfBounds}

-- 0 to 50,000.
abbrev pub bounded : ℕ → Bool
bounded x = nat_le x 50000

-- Why there is no such set, the upper reason first. Eight thetas are read, and no more.
abbrev pub refusal : ℕ → List ℕ → Option Refusal
refusal k thetas = cond (nat_lt (length thetas) 8) (Some BufferTooShort) (cond (bounded k && list_all bounded (take 8 thetas)) None (Some ValueOutOfBounds))
