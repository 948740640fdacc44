use Rattle.rules.proofs.MovedDays.{count_elsewhere, count_here}
use Rattle.rules.proofs.figure_laws.counts_move_estimates.Goals as goal

pub returns : goal.returns
returns c = record { other_days = count_elsewhere; other_points = count_here }
