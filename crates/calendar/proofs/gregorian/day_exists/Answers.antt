use Rattle.std.proofs.Common.{arith}
use Rattle.std.proofs.lemmas.Bool.Decides.{nat_tests}
use Rattle.calendar.specs.Gregorian.{day_exists}
use Rattle.calendar.proofs.gregorian.day_exists.Goals as goal

pub returns-then-contains-2 : goal.returns-then-contains-2
unfolding day_exists
returns-then-contains-2 c = grind (arith, nat_tests)

pub returns-else-contains-2 : goal.returns-else-contains-2
unfolding day_exists
returns-else-contains-2 c = grind (arith, nat_tests)
