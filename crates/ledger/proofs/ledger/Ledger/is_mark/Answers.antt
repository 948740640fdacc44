use Rattle.std.proofs.Common.{◌≡◌, ◌∙◌, rules}
use Rattle.ledger.specs.Readings.{is_mark_at}
use Rattle.ledger.proofs.Marks.{mark_followed}
use Rattle.ledger.proofs.ledger.Ledger.is_mark.Goals as goal

pub returns-else-eq-clause-law : goal.returns-else-eq-clause-law
returns-else-eq-clause-law c = λ s h f.
    let told : c.holds_end_on.result ≡ is_mark_at c.args.self.now c.args.point c.args.day = search rules in told ∙ mark_followed f c.args.point c.args.day
