use Rattle.std.proofs.Common.{arith}
use Rattle.calendar.specs.Digits.{is_date}
use Rattle.calendar.proofs.DateAnswers.{refused_as_no_such_date}
use Rattle.calendar.proofs.DateDigits.{found_by_digits}
use Rattle.calendar.proofs.date.Date.from_digits.Goals as goal

pub returns-then-day_exists : goal.returns-then-day_exists
returns-then-day_exists c = found_by_digits _ _ (omega arith)

pub returns-else-day_exists : goal.returns-else-day_exists
unfolding is_date
returns-else-day_exists c = refused_as_no_such_date _ (grind (arith, c.if-day_exists.ensures))
