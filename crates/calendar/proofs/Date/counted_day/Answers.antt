use Rattle.std.proofs.Common.{rules}
use Rattle.calendar.specs.Places.{day_counted}
use Rattle.calendar.proofs.Date.counted_day.Goals as goal

pub returns-then-is_holiday : goal.returns-then-is_holiday
unfolding day_counted
returns-then-is_holiday c = search rules

pub returns-then-is_bridging : goal.returns-then-is_bridging
unfolding day_counted
returns-then-is_bridging c = search rules

pub returns-else-is_bridging : goal.returns-else-is_bridging
unfolding day_counted
returns-else-is_bridging c = search rules
