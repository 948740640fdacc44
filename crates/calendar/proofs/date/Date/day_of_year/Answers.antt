use Rattle.std.proofs.Common.{arith}
use Rattle.calendar.proofs.Days.{dated}
use Rattle.calendar.proofs.DayNumbers.{placed}
use Rattle.calendar.proofs.date.Date.day_of_year.Goals as goal

pub days_before_month-requires : goal.days_before_month-requires
days_before_month-requires c = let within = dated c.args.self in (omega arith, omega arith, omega arith, omega arith)

pub overflow_add-result : goal.overflow_add-result
overflow_add-result c = let within = dated c.args.self in let place = placed within in omega arith
