use Rattle.std.proofs.Common.{rules}
use Rattle.calendar.proofs.Counting.{named_is}
use Rattle.calendar.proofs.Date.is_holiday.Goals as goal

pub returns : goal.returns
returns c = let e = named_is c.args.holidays.now c.args.self.days c.contains.result c.contains.ensures.cases in search rules
