use Rattle.std.proofs.Common.{rules}
use Rattle.calendar.specs.Places.{week_of}
use Rattle.calendar.proofs.Date.week.Goals as goal

pub returns : goal.returns
unfolding week_of
returns c = search rules
