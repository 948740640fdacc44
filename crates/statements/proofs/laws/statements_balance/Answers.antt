use Rattle.statements.proofs.Balance.{balance}
use Rattle.statements.proofs.laws.statements_balance.Goals as goal

pub returns : goal.returns
returns c = balance
