use Rattle.std.proofs.Common.{◌&&◌, rules, tests}
use Rattle.rules.specs.Readings.{replaces}
use Rattle.ledger.proofs.ledger.Ledger.holds_firm_under.Goals as goal
use Rattle.terms.specs.ReadingType.{is_firm}

pub returns : goal.returns
returns c = c.holds_some.ensures (λ old. replaces c.args.reading.now old && is_firm old.reading_type) (λ r b k. search (rules, tests))
