use Rattle.std.proofs.Common.{◌≡◌, ◌<◌, None, ap, ◌∙◌, arith}
use Rattle.ledger.specs.declared.opening.Opening.{Opening}
use Rattle.book.proofs.BookDays.{a_day}
use Rattle.book.proofs.Calls.{told_book}
use Rattle.book.proofs.book.Book.day_sum.Goals as goal

pub returns : goal.returns
returns c = record {
  law = λ m case f.
      let days : c.opening.result.days ≡ case.setting.days = ap (λ (o : Opening). o.days) c.opening.ensures ∙ f.entries.days in
      let within : c.args.day < case.setting.days = omega (arith, c.if-day-opening.false, days) in (
        a_day case.setting c.args.day None within,
        c.retailer_sum.ensures case.setting _ case.history (told_book f) f.figures f.limited within,
      );
}
