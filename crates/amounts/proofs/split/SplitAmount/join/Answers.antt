use Rattle.std.proofs.Common.{arith}
use Rattle.std.proofs.lemmas.Int.{ints, to_z-of_z}
use Rattle.amounts.proofs.split.SplitAmount.join.Goals as goal

-- each of the three numbers lies within the sizes, so each is exact
pub returns : goal.returns
returns c = λ h. grind (arith, ints, to_z-of_z)
