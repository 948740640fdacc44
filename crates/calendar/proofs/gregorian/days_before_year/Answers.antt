use Rattle.std.proofs.Common.{arith}
use Rattle.calendar.proofs.Years.{days_before_year_is}
use Rattle.calendar.proofs.gregorian.days_before_year.Goals as goal

pub returns : goal.returns
returns c = omega (arith, days_before_year_is c.args.year (omega arith) (omega arith))
