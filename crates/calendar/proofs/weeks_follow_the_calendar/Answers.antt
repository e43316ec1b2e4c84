use Rattle.calendar.proofs.Calendar.{week_bound, day_bound, weekday_counted, first_week, week_stays}
use Rattle.calendar.proofs.weeks_follow_the_calendar.Goals as goal

pub returns : goal.returns
returns c = record { week_bound = week_bound; day_bound = day_bound; counted = weekday_counted; first = first_week; stays = week_stays }
