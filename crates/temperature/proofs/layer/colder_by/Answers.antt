use Rattle.std.proofs.Common.{arith}
use Rattle.std.proofs.lemmas.Int.{ints, to_z-of_z}
use Rattle.temperature.proofs.layer.colder_by.Goals as goal

pub returns-clause-value : goal.returns-clause-value
returns-clause-value c = grind (arith, ints, to_z-of_z)

pub returns-clause-bound : goal.returns-clause-bound
returns-clause-bound c = grind (arith, ints, to_z-of_z)
