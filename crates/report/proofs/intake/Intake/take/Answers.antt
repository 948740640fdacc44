use Rattle.std.proofs.Common.{◌≡◌, ◌+◌, min, ap, ◌∙◌, arith}
use Rattle.std.specs.Option.{option_map}
use Rattle.report.proofs.LineEntryLemmas.{fail_placed}
use Rattle.report.proofs.intake.Intake.take.Goals as goal
use Rattle.report.specs.LineContent.{reported_answer, reported_refusal}
use Rattle.line_format.specs.Fault.{last_line_number}

pub returns-clause-law : goal.returns-clause-law
returns-clause-law c = λ k t stands.
    let entered = c.enter-answer.ensures.law t stands.stage in
    let counted = stands.lines in
    let number : c.enter-answer.new.self.lines ≡ min (k + 1) last_line_number = c.enter-answer.ensures.lines ∙ omega (arith, c.min-self.ensures, c.saturating_add.ensures, counted) in (
      entered.0,
      entered.1,
      ap reported_answer c.on_line.ensures ∙ fail_placed k c.enter-answer.new.self.lines c.enter-answer.result number ∙ ap (option_map (reported_refusal k)) entered.2,
      record { lines = number; stage = entered.3 },
    )
