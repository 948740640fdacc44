use Rattle.rules.proofs.MovedDays.{gate_moved, interval_moved}
use Rattle.rules.proofs.figure_laws.loads_move_one_day.Goals as goal

pub returns : goal.returns
returns c = record { by_gate = gate_moved; by_interval = interval_moved }
