use Rattle.std.proofs.Common.{rules}
use Rattle.calendar.specs.Dates.{days_before_month}
use Rattle.calendar.proofs.days_before.Goals as goal

pub returns-clause-value : goal.returns-clause-value
unfolding days_before_month
returns-clause-value c = search rules
