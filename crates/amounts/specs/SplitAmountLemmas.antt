-- A lemma by which the laws of the split kind are proved. No contract cites it. Assumes nothing.
use Rattle.std.specs.Prelude.{◌≡◌, ℤ}
use Rattle.amounts.specs.Kinds.{split}

-- what holds of each of the three numbers holds of the amount
pub same : {a b c x y z : ℤ} → a ≡ x → b ≡ y → c ≡ z → split a b c ≡ split x y z
same p q r = λ i. split (p i) (q i) (r i)
