use Rattle.ledger.proofs.Days.{date_found}
use Rattle.ledger.proofs.ledger.Ledger.date_of_day.Goals as goal

pub returns : goal.returns
returns c = date_found c.date_of_day_number.result c.unwrap.result _ _ c.unwrap.ensures c.date_of_day_number.ensures
