use Rattle.std.proofs.Common.{◌/◌, arith}
use Rattle.calendar.proofs.Days.{day_exists_from}
use Rattle.calendar.proofs.Months.{days_before_next_month}
use Rattle.calendar.proofs.DayNumbers.{found}
use Rattle.calendar.proofs.Years.{in_four}
use Rattle.calendar.proofs.date.Date.from_day_number.Goals as goal

pub month_at-month-requires : goal.month_at-month-requires
month_at-month-requires c =
    let year = in_four (c.args.day_number / 1461) c.min-whole_years.result (omega arith) (omega arith) in
    omega arith

pub invariant_of-result : goal.invariant_of-result
invariant_of-result c =
    record { real = day_exists_from _ _ _ (omega arith) (omega arith) (omega arith) (omega arith) (omega arith) (omega (arith, days_before_next_month)) }

pub returns : goal.returns
returns c =
    let year = in_four (c.args.day_number / 1461) c.min-whole_years.result (omega arith) (omega arith) in
    found _ _ (omega arith)
