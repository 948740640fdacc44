use Rattle.std.proofs.Common.{cond, ap, ◌∙◌}
use Rattle.std.proofs.lemmas.Result.{err_from_is_err_and}
use Rattle.book.specs.Replies.{figure_is}
use Rattle.book.proofs.Questions.{figure_shown, question_granted, question_refused}
use Rattle.book.proofs.book.Book.ask_figure.Goals as goal
use Rattle.sheet.specs.Sheet.{is_in_sheet, figure_at}

pub returns-in_err-day : goal.returns-in_err-day
returns-in_err-day c =
    let p = err_from_is_err_and c.from_residual.result c.from_residual.ensures.1 in
    rw (p.1, p.2) (λ m. question_refused c.in_err-day.field-0.0 c.in_err-day.ensures)

pub returns : goal.returns
returns c = λ m.
    let sheet = c.args.self.now.sheet in
    question_granted c.args.date c.in_ok-day.day _ c.in_ok-day.ensures
    (λ case f none is.
    ap figure_is (c.figure.ensures ∙ ap (λ d. cond (is_in_sheet sheet c.args.point d) (figure_at sheet c.args.point d) 0) is ∙ figure_shown case.setting case.history sheet c.args.point c.args.date f.figures none))
