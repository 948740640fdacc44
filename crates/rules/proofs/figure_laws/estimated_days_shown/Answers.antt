use Rattle.rules.proofs.MovedDays.{figure_before}
use Rattle.rules.proofs.Balance.{shows_estimate, shows_share}
use Rattle.rules.proofs.figure_laws.estimated_days_shown.Goals as goal

pub returns : goal.returns
returns c = record { latest_estimate = shows_estimate; scaled_estimate = shows_share; nothing_before = figure_before }
