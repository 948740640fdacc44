use Rattle.std.proofs.Common.{is_some, ap, ◌∙◌}
use Rattle.ledger.proofs.ledger.Ledger.has_load.Goals as goal

pub returns : goal.returns
returns c = λ s h f. c.is_some.ensures ∙ ap is_some (c.load.ensures.law s h f)
