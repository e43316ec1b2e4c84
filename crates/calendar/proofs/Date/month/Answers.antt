use Rattle.std.proofs.Common.{rules}
use Rattle.calendar.proofs.Days.{month_on_date}
use Rattle.calendar.proofs.Date.month.Goals as goal

pub returns-clause-low : goal.returns-clause-low
returns-clause-low c = let m = month_on_date c.args.self.days c.args.self.bounded in search rules
