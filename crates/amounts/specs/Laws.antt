-- The laws of a kind of amount, over what amounts hold (X). Energies of pieces are 0 to 999,999,999 Wh, dials 1 and 2.
-- Joining and taking off are for two amounts whose sizes add to at most 10^15: each law has that premise of every
-- joining and taking off that stands in it, and no other.
use Rattle.std.specs.Prelude.{◌≡◌, ℕ, ◌+◌, ◌^◌, ◌≤◌, ℤ, pos, ◌+ℤ◌, ◌-ℤ◌, unsigned_abs}

-- Two sizes may be joined or taken off.
abbrev pub Small : ℕ → ℕ → Type 0
Small a b = a + b ≤ 10 ^ 15

pub record Joining {X : Type 0} (nil : X) (piece : ℕ → ℕ → X) (joined : X → X → X) (energy : X → ℤ) (size : X → ℕ) : Type 0 where
  pub commutes : (x y : X) → Small (size x) (size y) → joined x y ≡ joined y x
  pub associates : (x y z : X) → Small (size x) (size y) → Small (size (joined x y)) (size z) → Small (size y) (size z) → Small (size x) (size (joined y z)) → joined (joined x y) z ≡ joined x (joined y z)
  pub neutral : (x : X) → Small (size nil) (size x) → joined nil x ≡ x
  -- nil tells 0, a piece its energy, joined amounts the sum
  pub nil_energy : energy nil ≡ pos 0
  pub piece_energy : (e d : ℕ) → e ≤ 999999999 → 1 ≤ d → d ≤ 2 → energy (piece e d) ≡ pos e
  pub joined_energy : (x y : X) → Small (size x) (size y) → energy (joined x y) ≡ energy x +ℤ energy y
  -- the size is at least the energy without sign, 0 for nil, at most 10^9 for a piece, at most the two sizes together
  -- for joined amounts
  pub covers : (x : X) → unsigned_abs (energy x) ≤ size x
  pub nil_size : size nil ≡ 0
  pub piece_size : (e d : ℕ) → e ≤ 999999999 → 1 ≤ d → d ≤ 2 → size (piece e d) ≤ 10 ^ 9
  pub joined_size : (x y : X) → Small (size x) (size y) → size (joined x y) ≤ size x + size y

pub record TakingOff {X : Type 0} (joined taken : X → X → X) (energy : X → ℤ) (size : X → ℕ) : Type 0 where
  -- taking off and joining undo each other
  pub undone : (x y : X) → Small (size x) (size y) → Small (size (joined x y)) (size y) → taken (joined x y) y ≡ x
  pub redone : (x y : X) → Small (size x) (size y) → Small (size (taken x y)) (size y) → joined (taken x y) y ≡ x
  pub taken_energy : (x y : X) → Small (size x) (size y) → energy (taken x y) ≡ energy x -ℤ energy y
  pub taken_size : (x y : X) → Small (size x) (size y) → size (taken x y) ≤ size x + size y
