use Rattle.rules.proofs.HeldReadings.{within_places}
use Rattle.rules.proofs.reading_laws.held_readings_have_places.Goals as goal

pub returns : goal.returns
returns c = within_places
