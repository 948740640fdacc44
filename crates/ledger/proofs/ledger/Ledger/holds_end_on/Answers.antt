use Rattle.std.proofs.Common.{◌&&◌, eqb, rules, tests}
use Rattle.ledger.proofs.ledger.Ledger.holds_end_on.Goals as goal

pub returns : goal.returns
returns c = c.holds_some.ensures (λ r. eqb r.point c.args.point && eqb r.end c.args.day) (λ r b k. search (rules, tests))
