use Rattle.std.proofs.Common.{◌≡◌, not, sym, ap, ◌∙◌, rules}
use Rattle.ledger.specs.Readings.{is_end_allowed_at}
use Rattle.ledger.proofs.Marks.{end_followed}
use Rattle.ledger.proofs.ledger.Ledger.may_end.Goals as goal

pub returns-then-is_mark-clause-law : goal.returns-then-is_mark-clause-law
returns-then-is_mark-clause-law c = λ s h f.
    let told : c.is_mark.result ≡ is_end_allowed_at c.args.self.now c.args.reading.now = search rules in sym (end_followed f c.args.reading.now) ∙ ap not (sym told)

pub returns-else-is_mark-clause-law : goal.returns-else-is_mark-clause-law
returns-else-is_mark-clause-law c = λ s h f.
    let told : c.is_after_all_marks.result ≡ is_end_allowed_at c.args.self.now c.args.reading.now = search rules in
    sym (end_followed f c.args.reading.now) ∙ ap not (sym told)
