use Rattle.std.proofs.Common.{◌≡◌, ap, arith}
use Rattle.terms.specs.RefusalNumbers.{no_such_date}
use Rattle.calendar.specs.Digits.{is_date, day_number_of}
use Rattle.calendar.specs.Date.{digits_of}
use Rattle.calendar.proofs.DateAnswers.{carried}
use Rattle.calendar.proofs.DateDigits.{number_of_digits}
use Rattle.calendar.proofs.day_numbers.day_number_of.Goals as goal

pub returns : goal.returns
returns c =
    carried (is_date c.args.date) (λ d. digits_of d ≡ c.args.date) (λ n. n ≡ day_number_of c.args.date) no_such_date
    (λ same. omega (arith, number_of_digits c.in_ok-from_digits.field-0, ap day_number_of same)) c.in_ok-from_digits.ensures
