use Rattle.std.proofs.Common.{Ok, Err, ap}
use Rattle.std.proofs.lemmas.Result.{err_from_is_err_and}
use Rattle.statements.proofs.DayAnswers.{remainder_given}
use Rattle.statements.proofs.draw.remainder_on.Goals as goal

pub returns-in_err-day_account : goal.returns-in_err-day_account
returns-in_err-day_account g c =
    let p = err_from_is_err_and c.from_residual.result c.from_residual.ensures.1 in
    rw (p.1, p.2) (record {
      law = λ case f n within loaded. absurd (remainder_given case c.args.day within n (Err c.in_err-day_account.field-0.0) loaded (c.in_err-day_account.ensures.law case f));
    })

pub returns : goal.returns
returns g c = record {
  law = λ case f n within loaded. ap Ok (remainder_given case c.args.day within n (Ok c.in_ok-day_account.field-0) loaded (c.in_ok-day_account.ensures.law case f));
}
