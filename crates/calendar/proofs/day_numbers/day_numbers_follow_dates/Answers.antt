use Rattle.std.proofs.Common.{arith}
use Rattle.calendar.specs.Gregorian.{days_in_all_counted}
use Rattle.calendar.proofs.NextDates.{date_after_date, day_number_has_date, day_number_leads_back}
use Rattle.calendar.proofs.DayNumbers.{number_below}
use Rattle.calendar.proofs.Order.{same_digits, same_number, later_number, later_day_number, same_day_number, day_number_below}
use Rattle.calendar.proofs.DateDigits.{digits_are_date, number_of_digits}
use Rattle.calendar.proofs.day_numbers.day_numbers_follow_dates.Goals as goal

pub returns : goal.returns
returns c = record {
  days_counted = omega (arith, days_in_all_counted);
  number_below = λ d. omega (arith, number_below d);
  same_digits = same_digits;
  same_number = same_number;
  later_number = later_number;
  digits_are_date = digits_are_date;
  number_of_digits = number_of_digits;
  day_number_below = λ n real. omega (arith, day_number_below n real);
  same_day_number = same_day_number;
  later_day_number = later_day_number;
  date_after_date = λ n real h. date_after_date n real (omega arith);
  day_number_has_date = λ k h. day_number_has_date k (omega arith);
  day_number_leads_back = day_number_leads_back;
}
