use Rattle.std.proofs.Common.{arith}
use Rattle.rules.specs.declared.entry.Entry.TheVariants.{DegreeDaysEntered}
use Rattle.sheet.proofs.NewEntries.{sheet_after_count, knows_count, supplied_after_count}
use Rattle.sheet.proofs.sheet.Sheet.take_count.Goals as goal
use Rattle.rules.proofs.AcceptedEntries.{entry_in}

pub returns-then-day-self : goal.returns-then-day-self
returns-then-day-self g c = λ s rest h count lawful follows on is_sheet.
    let within = (entry_in s h (DegreeDaysEntered c.args.day count) lawful).0 in
    absurd (omega (arith, within, is_sheet.days, c.if-day-self.true))

pub returns : goal.returns
returns g c = λ s rest h count lawful follows on is_sheet.
    let day = c.args.day in
    let sheet = c.args.self.now in
    let within = (entry_in s h (DegreeDaysEntered day count) lawful).0 in
    sheet_after_count s h day count c.args.sources.now.ledger.now lawful follows sheet is_sheet c.settle_day.new.self c.settle_day.ensures.stands c.settle_day.ensures.notes
    (c.settle_day.ensures.law s _ (knows_count s h day count c.args.sources.now.ledger.now lawful follows sheet is_sheet) (on day)
    (supplied_after_count s h day count c.args.sources.now.ledger.now lawful follows sheet is_sheet day within))
