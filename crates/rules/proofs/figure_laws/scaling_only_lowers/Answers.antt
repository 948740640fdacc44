use Rattle.rules.proofs.Balance.{scaling_only_lowers}
use Rattle.rules.proofs.figure_laws.scaling_only_lowers.Goals as goal

pub returns : goal.returns
returns c = scaling_only_lowers
