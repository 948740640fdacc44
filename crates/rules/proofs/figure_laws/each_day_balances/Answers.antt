use Rattle.rules.proofs.Balance.{balances}
use Rattle.rules.proofs.figure_laws.each_day_balances.Goals as goal

pub returns : goal.returns
returns c = balances
