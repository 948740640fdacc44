use Rattle.rules.proofs.MovedDays.{enrolment_moves}
use Rattle.rules.proofs.figure_laws.enrolments_move_later_days.Goals as goal

pub returns : goal.returns
returns c = enrolment_moves
