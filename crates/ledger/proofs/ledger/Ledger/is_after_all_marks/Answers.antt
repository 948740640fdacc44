use Rattle.std.proofs.Common.{◌≡◌, not, ◌∙◌, rules}
use Rattle.ledger.specs.Readings.{is_after_marks_at}
use Rattle.ledger.proofs.Marks.{after_followed}
use Rattle.ledger.proofs.ledger.Ledger.is_after_all_marks.Goals as goal

pub returns-then-is_some_and-clause-law : goal.returns-then-is_some_and-clause-law
returns-then-is_some_and-clause-law c = λ s h f.
    let told : not c.holds_end_from.result ≡ is_after_marks_at c.args.self.now c.args.point c.args.day = search rules in told ∙ after_followed f c.args.point c.args.day
