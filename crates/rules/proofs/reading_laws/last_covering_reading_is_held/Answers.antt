use Rattle.rules.proofs.HeldReadings.{last_covering}
use Rattle.rules.proofs.reading_laws.last_covering_reading_is_held.Goals as goal

pub returns : goal.returns
returns c = last_covering
