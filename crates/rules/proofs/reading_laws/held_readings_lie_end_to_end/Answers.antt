use Rattle.rules.proofs.HeldReadings.{end_to_end}
use Rattle.rules.proofs.reading_laws.held_readings_lie_end_to_end.Goals as goal

pub returns : goal.returns
returns c = end_to_end
