use Rattle.std.proofs.Common.{arith}
use Rattle.calendar.proofs.Days.{dated}
use Rattle.calendar.proofs.DayNumbers.{placed}
use Rattle.calendar.proofs.date.Date.day_number.Goals as goal

pub days_before_year-requires : goal.days_before_year-requires
days_before_year-requires c = let within = dated c.args.self in (omega arith, omega arith)

pub days_before_month-requires : goal.days_before_month-requires
days_before_month-requires c = let within = dated c.args.self in (omega arith, omega arith, omega arith, omega arith)

pub overflow_add-result : goal.overflow_add-result
overflow_add-result c = let within = dated c.args.self in let place = placed within in omega arith

pub overflow_sub-result : goal.overflow_sub-result
overflow_sub-result c = let within = dated c.args.self in omega arith

pub overflow_add-result-2 : goal.overflow_add-result-2
overflow_add-result-2 c = let within = dated c.args.self in let place = placed within in omega arith
