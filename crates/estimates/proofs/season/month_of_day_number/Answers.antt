use Rattle.std.proofs.Common.{Some, sym, ap, ◌∙◌}
use Rattle.estimates.proofs.Months.{month_found}
use Rattle.estimates.proofs.season.month_of_day_number.Goals as goal

pub returns : goal.returns
returns c = ap Some c.month.ensures ∙ month_found _ c.from_day_number.result c.in_ok-date.date c.args.day_number c.from_day_number.ensures (sym c.ok.ensures.value ∙ c.in_ok-date.was)
