use Rattle.rules.proofs.MovedDays.{gate_moves_joined, interval_moves_joined}
use Rattle.rules.proofs.figure_laws.loads_move_joined_days.Goals as goal

pub returns : goal.returns
returns c = record { gate = gate_moves_joined; interval = interval_moves_joined }
