-- The table of load profiles: class and subscribed power decide the profile, profile and dial the sub-profile.
use Rattle.std.specs.Prelude.{◌≡◌, ℕ, ◌≤◌, Bool, cond, ◌&&◌, Some, None, Ok, Err, Option, Result, ◌==◌, nat_le}
use Rattle.refusals.specs.declared.Refusal.{Refusal}
use Rattle.refusals.specs.declared.Refusal.TheVariants.{NoSuchProfile, UnknownDial}
use Rattle.profiles.specs.declared.Dial.{Dial}
use Rattle.profiles.specs.declared.Dial.TheVariants.{First, Second}
use Rattle.profiles.specs.declared.Profile.{Profile}
use Rattle.profiles.specs.declared.Profile.TheVariants.{Res1, Res11, Res1We, Res11We, Res2}

-- A power of low to high kVA.
abbrev pub between : ℕ → ℕ → ℕ → Bool
between low x high = nat_le low x && nat_le x high

-- The profile of a class at a power in kVA; any other class or power is refused.
abbrev pub profile_of : ℕ → ℕ → Result Profile Refusal
profile_of class kva =
    cond (class == 1 && between 1 kva 6) (Ok Res1)
    (cond (class == 1 && between 7 kva 36) (Ok Res11)
    (cond (class == 2 && between 1 kva 6) (Ok Res1We)
    (cond (class == 2 && between 7 kva 36) (Ok Res11We)
    (cond (class == 3 && between 1 kva 36) (Ok Res2)
    (Err NoSuchProfile)))))

-- The dial of a number: 1 is the first, 2 the second, and any other number is refused.
abbrev pub dial_of : ℕ → Result Dial Refusal
dial_of n = cond (n == 1) (Ok First) (cond (n == 2) (Ok Second) (Err UnknownDial))

-- What dial 1 and dial 2 have; there is no other dial.
abbrev pub dials : Option ℕ → Option ℕ → ℕ → Option ℕ
dials first second dial = cond (dial == 1) first (cond (dial == 2) second None)

-- The sub-profile of a profile's dial, where the profile has that dial.
abbrev pub sub_profile_of : Profile → ℕ → Option ℕ
sub_profile_of Res1 = dials (Some 0) None
sub_profile_of Res11 = dials (Some 1) None
sub_profile_of Res1We = dials (Some 2) (Some 3)
sub_profile_of Res11We = dials (Some 4) (Some 5)
sub_profile_of Res2 = dials (Some 6) (Some 7)

-- A sub-profile is one of 0 to 7, and belongs to one dial of one profile.
pub record SubProfilesApart : Type 0 where
  pub bounded : (p : Profile) (d s : ℕ) → sub_profile_of p d ≡ Some s → s ≤ 7
  pub once : (p q : Profile) (d e s : ℕ) → sub_profile_of p d ≡ Some s → sub_profile_of q e ≡ Some s → (p ≡ q) × (d ≡ e)
