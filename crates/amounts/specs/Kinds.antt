-- The split kind: the energies of dials 1 and 2, and the number of pieces, each of them a whole number below zero too.
use Rattle.std.specs.Prelude.{ℕ, ◌+◌, cond, ℤ, pos, ◌+ℤ◌, ◌-ℤ◌, ◌==◌, unsigned_abs}
use Rattle.amounts.specs.declared.split.Split.{Split}
use Rattle.amounts.specs.Told.{told, told_size}

abbrev pub split : ℤ → ℤ → ℤ → Split
split a b n = record { first = a; second = b; pieces = n }

-- A piece counts as one, also if it has 0 Wh.
abbrev pub split_piece : ℕ → ℕ → Split
split_piece e d = cond (d == 1) (split (pos e) (pos 0) (pos 1)) (split (pos 0) (pos e) (pos 1))

abbrev pub split_joined : Split → Split → Split
split_joined x y = split (x.first +ℤ y.first) (x.second +ℤ y.second) (x.pieces +ℤ y.pieces)

abbrev pub split_taken : Split → Split → Split
split_taken x y = split (x.first -ℤ y.first) (x.second -ℤ y.second) (x.pieces -ℤ y.pieces)

abbrev pub split_energy : Split → ℤ
split_energy x = told (x.first +ℤ x.second)

-- The size is the three numbers without sign, added.
abbrev pub split_size : Split → ℕ
split_size x = told_size (unsigned_abs x.first + unsigned_abs x.second + unsigned_abs x.pieces)
