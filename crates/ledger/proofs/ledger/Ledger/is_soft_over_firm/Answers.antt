use Rattle.std.proofs.Common.{◌≡◌, ◌∙◌, rules}
use Rattle.ledger.specs.Readings.{is_soft_over_firm_at}
use Rattle.ledger.proofs.Marks.{soft_followed}
use Rattle.ledger.proofs.ledger.Ledger.is_soft_over_firm.Goals as goal

pub returns-then-not-is_firm-clause-law : goal.returns-then-not-is_firm-clause-law
returns-then-not-is_firm-clause-law c = λ s h f.
    let told : c.holds_firm_under.result ≡ is_soft_over_firm_at c.args.self.now c.args.reading.now = search rules in told ∙ soft_followed f c.args.reading.now
