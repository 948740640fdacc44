use Rattle.std.proofs.Common.{arith}
use Rattle.calendar.proofs.Days.{dated}
use Rattle.calendar.proofs.date.Date.digits.Goals as goal

pub overflow_mul-result : goal.overflow_mul-result
overflow_mul-result c = let within = dated c.args.self in omega arith

pub overflow_mul-result-2 : goal.overflow_mul-result-2
overflow_mul-result-2 c = let within = dated c.args.self in omega arith

pub overflow_add-result : goal.overflow_add-result
overflow_add-result c = let within = dated c.args.self in omega arith

pub overflow_add-result-2 : goal.overflow_add-result-2
overflow_add-result-2 c = let within = dated c.args.self in omega arith
