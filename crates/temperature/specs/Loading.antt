-- Loading temperatures: what is refused, and what stands afterwards.
use Rattle.std.specs.Prelude.{◌≡◌, ℕ, ◌<◌, ◌≤◌, Bool, cond, ◌&&◌, List, length, take, ℤ, pos, negsuc, Some, None, Ok, Err, Option, Result, ◌==◌, nat_le, nat_lt, slice_index, slice_index_or}
use Rattle.std.specs.List.{list_all}
use Rattle.refusals.specs.declared.Refusal.{Refusal}
use Rattle.refusals.specs.declared.Refusal.TheVariants.{BufferTooShort, CoverageDiffers, ValueOutOfBounds}
use Rattle.temperature.specs.declared.Temperatures.{Temperatures}

-- Between −500 and 500 tenths of a degree.
abbrev pub temperate : ℤ → Bool
temperate (pos n) = nat_le n 500
temperate (negsuc n) = nat_le n 499

-- A gradient is at most 2,000.
abbrev pub gradual : ℕ → Bool
gradual g = nat_le g 2000

-- Eight gradients are read, and no more: one for each sub-profile.
abbrev pub bounded : ℤ → List ℕ → List ℤ → List ℤ → Bool
bounded threshold gradients normal measured = temperate threshold && list_all gradual (take 8 gradients) && list_all temperate normal && list_all temperate measured

abbrev pub matching : List ℤ → List ℤ → Bool
matching normal measured = length normal == length measured && nat_le (length normal) 1680

-- Why a load is refused, the upper reason first.
abbrev pub refusal : ℤ → List ℕ → List ℤ → List ℤ → Option Refusal
refusal threshold gradients normal measured =
    cond (nat_lt (length gradients) 8) (Some BufferTooShort)
    (cond (matching normal measured) (cond (bounded threshold gradients normal measured) None (Some ValueOutOfBounds)) (Some CoverageDiffers))

abbrev pub answered : Option Refusal → Result (Unit {0}) Refusal
answered None = Ok tt
answered (Some e) = Err e

-- The front of a list is that of another, its further places are as they were.
abbrev pub Fronted : {X : Type 0} → List X → List X → List X → Type 0
Fronted {X} front old new =
    ((k : ℕ) → k < length front → (d : X) → slice_index_or new k d ≡ slice_index_or front k d) × ((k : ℕ) → length front ≤ k → (d : X) → slice_index_or new k d ≡ slice_index_or old k d)

pub record Loaded (threshold : ℤ) (gradients : List ℕ) (normal measured : List ℤ) (old new : Temperatures) : Type 0 where
  pub threshold_is : new.threshold ≡ threshold
  pub gradients_are : (sub : ℕ) → sub ≤ 7 → slice_index new.gradients sub ≡ slice_index gradients sub
  pub normal_is : Fronted normal old.normal new.normal
  pub measured_is : Fronted measured old.measured new.measured

-- What stands after a load: what was loaded, or after a refusal what stood before.
abbrev pub After : Option Refusal → ℤ → List ℕ → List ℤ → List ℤ → Temperatures → Temperatures → Type 0
After None threshold gradients normal measured old new = Loaded threshold gradients normal measured old new
After (Some e) threshold gradients normal measured old new = new ≡ old
