use Rattle.std.proofs.lemmas.Result.{err_from_is_err_and}
use Rattle.report.proofs.OpeningLemmas.{never_refused, number_given, opened_stands}
use Rattle.report.proofs.opened_book.OpenedBook.open.Goals as goal

pub returns-in_err-book : goal.returns-in_err-book
returns-in_err-book c =
    let p = err_from_is_err_and c.from_residual.result c.from_residual.ensures.1 in
    rw (p.1, p.2) (c.in_err-book.ensures.refused, never_refused c.args.opening c.args.lists _ c.requires c.in_err-book.ensures.law)

pub returns : goal.returns
returns c =
    opened_stands c.args.opening c.args.lists c.in_ok-book.book c.unwrap-first_day_number.result c.requires c.in_ok-book.ensures.law
    (number_given c.day_number_of.result _ _ c.unwrap-first_day_number.result c.day_number_of.ensures c.unwrap-first_day_number.ensures)
