use Rattle.std.proofs.Common.{◌+◌, ◌/◌, arith}
use Rattle.calendar.proofs.Months.{days_before_month_at_most, days_before_month_at_least, days_before_month_grows, days_before_all_months, year_length_short}
use Rattle.calendar.proofs.gregorian.month_at.Goals as goal
use Rattle.calendar.proofs.gregorian.month_at.Goals.{else-month-lt12-via-then-month-lt12+else-days_before_month-days, else-month-lt12-via-else-month-lt12}

pub returns-then-days_before_month-days-clause-ends_later : goal.returns-then-days_before_month-days-clause-ends_later
returns-then-days_before_month-days-clause-ends_later c =
    omega (arith, days_before_month_at_least c.args.year (c.args.days / 31) (omega arith))

pub returns-else-month-lt12-clause-high : goal.returns-else-month-lt12-clause-high
returns-else-month-lt12-clause-high c = omega (arith, year_length_short c.args.year)

pub returns-else-month-lt12-clause-begins : goal.returns-else-month-lt12-clause-begins
returns-else-month-lt12-clause-begins c =
    omega (arith, days_before_month_at_most c.args.year (c.args.days / 31 + 1) (omega arith) (omega (arith, year_length_short c.args.year)))

pub returns-else-month-lt12-clause-ends_later : goal.returns-else-month-lt12-clause-ends_later
returns-else-month-lt12-clause-ends_later c = elim c.else-month-lt12.branch [
  | else-month-lt12-via-then-month-lt12+else-days_before_month-days w ↦ omega arith
  | else-month-lt12-via-else-month-lt12 w ↦
      omega (arith, days_before_month_grows c.args.year 13 (c.args.days / 31 + 1 + 1) (omega arith), days_before_all_months c.args.year)
]
