use Rattle.std.proofs.Common.{refl}
use Rattle.calendar.specs.Dates.{days_before_month, begun, year_of}
use Rattle.calendar.specs.Places.{week_of, day_counted}
use Rattle.sharing.specs.Shares.{before, running_share, figure}
use Rattle.factors.specs.Extremes.{extreme}
use Rattle.worked_numbers.proofs.worked_numbers_hold.Goals as goal

pub returns : goal.returns
unfolding days_before_month begun year_of week_of day_counted before running_share figure extreme
returns c = record {
  new_year_2005 = refl;
  christmas_2005 = refl;
  after_christmas_2005 = refl;
  bridging_day_2007 = refl;
  thirds = refl;
  weighted = refl;
  coefficients = refl;
  colder_day = refl;
  at_most = refl;
  over = refl;
  at_least = refl;
  under = refl;
}
