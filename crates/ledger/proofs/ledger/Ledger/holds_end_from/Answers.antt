use Rattle.std.proofs.Common.{◌&&◌, eqb, leb, rules, tests}
use Rattle.ledger.proofs.ledger.Ledger.holds_end_from.Goals as goal

pub returns : goal.returns
returns c = c.holds_some.ensures (λ r. eqb r.point c.args.point && leb c.args.day r.end) (λ r b k. search (rules, tests))
