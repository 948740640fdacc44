use Rattle.rules.proofs.Balance.{retailers_all, retailers_balance}
use Rattle.rules.proofs.figure_laws.retailers_balance.Goals as goal

pub returns : goal.returns
returns c = record { all_figures = retailers_all; balance = retailers_balance }
