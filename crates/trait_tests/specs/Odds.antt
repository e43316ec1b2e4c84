-- An odd kind of amount, lawful only within the bound of joining.
use Rattle.std.specs.Prelude.{◌+◌, ◌^◌, cond, ℤ, ◌+ℤ◌, ◌-ℤ◌, nat_le, unsigned_abs}

-- Past the bound the first one comes out: not commutative there.
abbrev pub odd_joined : ℤ → ℤ → ℤ
odd_joined x y = cond (nat_le (unsigned_abs x + unsigned_abs y) (10 ^ 15)) (x +ℤ y) x

abbrev pub odd_taken : ℤ → ℤ → ℤ
odd_taken x y = cond (nat_le (unsigned_abs x + unsigned_abs y) (10 ^ 15)) (x -ℤ y) x
