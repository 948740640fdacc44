use Rattle.std.proofs.Common.{◌≡◌, ◌+◌, ◌<◌, cond, not, is_some, Some, None, sym, ap, ◌∙◌, arith}
use Rattle.rules.specs.Figures.{load}
use Rattle.ledger.specs.declared.opening.Opening.{Opening}
use Rattle.book.proofs.BookDays.{a_day, account_of_load, no_account}
use Rattle.book.proofs.Calls.{told_book}
use Rattle.book.proofs.book.Book.day_account.Goals as goal
use Rattle.calendar.specs.Digits.{date_of_day_number}
use Rattle.sheet.specs.Account.{account}

pub returns-in-Some : goal.returns-in-Some
returns-in-Some g c = record {
  law = λ case f.
      let s = case.setting in
      let h = case.history in
      let day = c.args.day in
      let days : c.opening.result.days ≡ case.setting.days = ap (λ (o : Opening). o.days) c.opening.ensures ∙ f.entries.days in
      let within : c.args.day < case.setting.days = omega (arith, c.if-day-opening.false, days) in
      let given = sym c.in-Some.is ∙ c.day_account.ensures s _ h (told_book f) f.figures f.limited (f.estimates day) within in
      let found = account_of_load (account s h day) (load s h day) c.in-Some.figures given in
      (a_day s day (cond (not (is_some (load s h day))) (Some 14) None) within ∙ found.0, found.1);
}

pub returns-in-None : goal.returns-in-None
returns-in-None g c = record {
  law = λ case f.
      let s = case.setting in
      let h = case.history in
      let day = c.args.day in
      let days : c.opening.result.days ≡ case.setting.days = ap (λ (o : Opening). o.days) c.opening.ensures ∙ f.entries.days in
      let within : c.args.day < case.setting.days = omega (arith, c.if-day-opening.false, days) in
      let given = sym c.in-None.is ∙ c.day_account.ensures s _ h (told_book f) f.figures f.limited (f.estimates day) within in (
        a_day s day (cond (not (is_some (load s h day))) (Some 14) None) within ∙ no_account (account s h day) (load s h day) given,
        ap Some (c.date_of-date.ensures ∙ ap (λ n. date_of_day_number (n + day)) f.entries.first),
      );
}
