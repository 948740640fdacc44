use Rattle.rules.proofs.MovedDays.{reading_elsewhere, reading_others, stays_covered}
use Rattle.rules.proofs.figure_laws.readings_move_covered_days.Goals as goal

pub returns : goal.returns
returns c = record { other_days = reading_elsewhere; other_points = reading_others; stays_covered = stays_covered }
