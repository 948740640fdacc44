use Rattle.std.proofs.Common.{arith}
use Rattle.std.proofs.lemmas.Bool.Decides.{nat_tests}
use Rattle.calendar.specs.Gregorian.{is_leap}
use Rattle.calendar.proofs.gregorian.is_leap.Goals as goal

pub returns-then-year-ne0 : goal.returns-then-year-ne0
unfolding is_leap
returns-then-year-ne0 c = grind (arith, nat_tests)

pub returns-else-year-ne0 : goal.returns-else-year-ne0
unfolding is_leap
returns-else-year-ne0 c = grind (arith, nat_tests)

pub returns-else-year-eq0 : goal.returns-else-year-eq0
unfolding is_leap
returns-else-year-eq0 c = grind (arith, nat_tests)
