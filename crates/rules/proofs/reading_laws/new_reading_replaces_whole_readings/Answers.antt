use Rattle.rules.proofs.HeldReadings.{replacing}
use Rattle.rules.proofs.reading_laws.new_reading_replaces_whole_readings.Goals as goal

pub returns : goal.returns
returns c = replacing
