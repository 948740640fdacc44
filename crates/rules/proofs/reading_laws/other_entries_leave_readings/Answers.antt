use Rattle.rules.proofs.OtherEntries.{leaves}
use Rattle.rules.proofs.reading_laws.other_entries_leave_readings.Goals as goal

pub returns : goal.returns
returns c = leaves
