use Rattle.std.proofs.Common.{refl}
use Rattle.std.proofs.lemmas.Result.{err_from_is_err_and}
use Rattle.rules.specs.declared.call.Call.TheVariants.{EnterDegreeDays}
use Rattle.book.proofs.Calls.{refused_entry}
use Rattle.book.proofs.DegreeDays.{count_entered}
use Rattle.book.proofs.book.Book.enter_degree_days.Goals as goal

pub returns-in_err-day-clause-law : goal.returns-in_err-day-clause-law
returns-in_err-day-clause-law g c =
    let p = err_from_is_err_and c.from_residual.result c.from_residual.ensures.1 in
    rw (p.1, p.2) record {
      law = λ case f.
          refused_entry case (EnterDegreeDays c.args.date c.args.count) c.in_err-day.field-0.0 c.args.self.now _ _ refl (c.in_err-day.ensures.law case.setting case.history f.entries) f;
    }

pub returns-clause-law : goal.returns-clause-law
returns-clause-law g c = record {
  law = λ case f.
      count_entered case c.args.date c.args.count c.in_ok-day.day c.args.self.now c.take_count.new.self _ _ c.take_count.result f (c.in_ok-day.ensures.law case.setting case.history f.entries)
      c.take_count.ensures.answer c.take_count.ensures.ledger c.take_count.ensures.weather c.take_count.ensures.figures;
}
