use Rattle.std.proofs.Common.{rules}
use Rattle.calendar.proofs.Days.{month_on_date, length_bound}
use Rattle.calendar.specs.Dates.{year_of, month_of}
use Rattle.calendar.proofs.Date.day_of_month.Goals as goal

pub overflow_sub-result : goal.overflow_sub-result
overflow_sub-result c = let m = month_on_date c.args.self.days c.args.self.bounded in search rules

pub overflow_cast-result : goal.overflow_cast-result
overflow_cast-result c =
    let x = c.args.self.days in
    let m = month_on_date x c.args.self.bounded in
    let l = length_bound (year_of x) (month_of x) in
    search rules
