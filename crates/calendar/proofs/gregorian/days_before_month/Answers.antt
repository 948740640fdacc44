use Rattle.std.proofs.Common.{◌-◌, arith}
use Rattle.std.proofs.lemmas.Bool.Decides.{nat_tests}
use Rattle.calendar.proofs.Months.{days_before_month_is, plain_sums_at_most}
use Rattle.calendar.proofs.Years.{leap_by_four}
use Rattle.calendar.proofs.gregorian.days_before_month.Goals as goal

pub overflow_add-result : goal.overflow_add-result
overflow_add-result c = grind (arith, plain_sums_at_most (c.args.month - 1) (omega arith))

pub returns : goal.returns
returns c =
    grind (arith, nat_tests, leap_by_four c.args.year (omega arith) (omega arith), days_before_month_is c.args.year c.args.month (omega arith) (omega arith))
