use Rattle.std.proofs.lemmas.Result.{err_from_is_err_and}
use Rattle.book.proofs.Questions.{account_granted, question_granted, question_refused}
use Rattle.book.proofs.book.Book.ask_day.Goals as goal

pub returns-in_err-day : goal.returns-in_err-day
returns-in_err-day g c =
    let p = err_from_is_err_and c.from_residual.result c.from_residual.ensures.1 in
    rw (p.1, p.2) (question_refused c.in_err-day.field-0.0 c.in_err-day.ensures)

pub returns : goal.returns
returns g c =
    question_granted c.args.date c.in_ok-day.day _ c.in_ok-day.ensures
    (λ case f none is. account_granted case c.args.date c.in_ok-day.day c.day_account.result none is (c.day_account.ensures.law case f))
