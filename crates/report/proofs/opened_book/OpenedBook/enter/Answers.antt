use Rattle.std.proofs.Common.{Ok, Err, is_ok, ap}
use Rattle.book.proofs.Opening.{made_holds}
use Rattle.report.proofs.BookAnswerLemmas.{one_reply, served_refused, served_taken}
use Rattle.report.proofs.opened_book.OpenedBook.enter.Goals as goal

pub returns-in-Ok-clause-law : goal.returns-in-Ok-clause-law
returns-in-Ok-clause-law c = λ s h stands.
    let served = made_holds c.serve.result _ c.serve.ensures.law (ap is_ok c.unwrap.ensures) (record { setting = s; rest = stands.rest; history = h }) stands.follows in (
      served_taken s h c.args.record.now c.args.call c.in-Ok.field-0 (one_reply c.serve.new.answers (Ok c.in-Ok.field-0) _ _ c.in-Ok.is served.answered),
      record { days = stands.days; rest = stands.rest; follows = served.follows },
    )

pub returns-in-Err-clause-law : goal.returns-in-Err-clause-law
returns-in-Err-clause-law c = λ s h stands.
    let served = made_holds c.serve.result _ c.serve.ensures.law (ap is_ok c.unwrap.ensures) (record { setting = s; rest = stands.rest; history = h }) stands.follows in (
      served_refused s h c.args.record.now c.args.call c.in-Err.refusal c.column.result (c.column.ensures s stands.days) (one_reply c.serve.new.answers (Err c.in-Err.refusal) _ _ c.in-Err.is served.answered),
      record { days = stands.days; rest = stands.rest; follows = served.follows },
    )
