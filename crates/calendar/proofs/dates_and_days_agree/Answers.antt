use Rattle.calendar.proofs.Calendar.{back, only}
use Rattle.calendar.proofs.dates_and_days_agree.Goals as goal

pub returns : goal.returns
returns c = record { back = back; only = only }
