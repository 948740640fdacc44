use Rattle.std.proofs.Common.{◌≡◌, ltb, arith}
use Rattle.terms.specs.RefusalNumbers.{no_such_date}
use Rattle.calendar.specs.Gregorian.{days_in_all}
use Rattle.calendar.specs.Digits.{HasDayNumber}
use Rattle.calendar.specs.Date.{date_day_number}
use Rattle.calendar.proofs.DateAnswers.{carried}
use Rattle.calendar.proofs.DateDigits.{numbered_by}
use Rattle.calendar.proofs.day_numbers.date_of_day_number.Goals as goal

pub returns : goal.returns
returns c =
    carried (ltb c.args.day_number days_in_all) (λ d. date_day_number d ≡ c.args.day_number) (λ n. HasDayNumber n c.args.day_number) no_such_date
    (numbered_by c.in_ok-from_day_number.field-0 _ c.args.day_number (omega arith)) c.in_ok-from_day_number.ensures
