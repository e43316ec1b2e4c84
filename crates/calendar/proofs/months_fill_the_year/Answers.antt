use Rattle.calendar.proofs.Days.{january, month_next, december}
use Rattle.calendar.proofs.months_fill_the_year.Goals as goal

pub returns : goal.returns
returns c = record { january = january; next = month_next; december = december }
