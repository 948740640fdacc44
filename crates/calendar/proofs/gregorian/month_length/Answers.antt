use Rattle.std.proofs.Common.{arith}
use Rattle.std.proofs.lemmas.Bool.Decides.{nat_tests}
use Rattle.calendar.proofs.Months.{month_length_is}
use Rattle.calendar.proofs.gregorian.month_length.Goals as goal

pub returns : goal.returns
returns c = grind (arith, nat_tests, month_length_is c.args.year c.args.month (omega arith) (omega arith))
