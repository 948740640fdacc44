use Rattle.std.proofs.Common.{refl}
use Rattle.report.proofs.ReportedDayLemmas.{reported_day_is}
use Rattle.report.proofs.opened_book.OpenedBook.day.Goals as goal

pub returns-in_err-figures : goal.returns-in_err-figures
returns-in_err-figures c = λ s h stands.
    reported_day_is s h c.args.self.now c.args.weather.now c.args.day c.saturating_add.result c.in_ok-date.date c.date_of_day_number.result c.ask_day.result _ stands c.if-day-self.false c.saturating_add.ensures c.date_of_day_number.ensures c.in_ok-date.ensures.value c.ask_day.ensures _ c.in_err-figures.ensures.value c.from_residual-in_err-figures.ensures

pub returns : goal.returns
returns c = λ s h stands.
    reported_day_is s h c.args.self.now c.args.weather.now c.args.day c.saturating_add.result c.in_ok-date.date c.date_of_day_number.result c.ask_day.result _ stands c.if-day-self.false c.saturating_add.ensures c.date_of_day_number.ensures c.in_ok-date.ensures.value c.ask_day.ensures _ c.in_ok-figures.ensures.value refl
