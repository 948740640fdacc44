use Rattle.rules.proofs.Balance.{supplied_any_estimator, supplied_shows}
use Rattle.rules.proofs.figure_laws.supplied_is_never_scaled.Goals as goal

pub returns : goal.returns
returns c = record { share = supplied_shows; any_estimator = supplied_any_estimator }
