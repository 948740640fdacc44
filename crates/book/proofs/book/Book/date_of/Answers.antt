use Rattle.std.proofs.Common.{◌+◌, ap, ◌∙◌}
use Rattle.ledger.specs.declared.opening.Opening.{Opening}
use Rattle.book.proofs.book.Book.date_of.Goals as goal
use Rattle.calendar.specs.Digits.{date_of_day_number}
use Rattle.ledger.proofs.Days.{date_found}

pub returns : goal.returns
returns c =
    date_found c.date_of_day_number.result c.unwrap.result _ _ c.unwrap.ensures c.date_of_day_number.ensures
    ∙ ap (λ (o : Opening). date_of_day_number (o.first + c.args.day)) c.opening.ensures
