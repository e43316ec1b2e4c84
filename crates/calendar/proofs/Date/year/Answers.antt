use Rattle.std.proofs.Common.{rules}
use Rattle.calendar.specs.Dates.{year_of}
use Rattle.calendar.proofs.Date.year.Goals as goal

pub returns-clause-value : goal.returns-clause-value
unfolding year_of
returns-clause-value c = search rules
