-- The numbers of the anomalies, A1 to A5.
use Rattle.std.specs.Prelude.{ℕ, Some, None, Option}
use Rattle.spans.specs.declared.Anomaly.{Anomaly}
use Rattle.spans.specs.declared.Anomaly.TheVariants.{NoSituation, SeveralSituations, NoDial, ZeroWeight, ExtremeFactor}

abbrev pub number_of : Anomaly → ℕ
number_of NoSituation = 1
number_of SeveralSituations = 2
number_of NoDial = 3
number_of ZeroWeight = 4
number_of ExtremeFactor = 5

abbrev pub numbered : Option Anomaly → Option ℕ
numbered None = None
numbered (Some x) = Some (number_of x)
