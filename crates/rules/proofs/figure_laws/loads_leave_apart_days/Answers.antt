use Rattle.rules.proofs.MovedDays.{gate_moves, interval_moves}
use Rattle.rules.proofs.figure_laws.loads_leave_apart_days.Goals as goal

pub returns : goal.returns
returns c = record { gate = gate_moves; interval = interval_moves }
