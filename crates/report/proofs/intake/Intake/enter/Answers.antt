use Rattle.line_format.proofs.Exits.{at_exit}
use Rattle.report.proofs.LineEntryLemmas.{in_turn_since, limits_enter, malformed_enters, record_enters, turn_enters}
use Rattle.report.proofs.intake.Intake.enter.Goals as goal
use Rattle.report.specs.Intake.{EntersLine, is_turn_at}

pub returns-in_err-record-clause-law : goal.returns-in_err-record-clause-law
returns-in_err-record-clause-law c =
    at_exit (λ r. EntersLine c.args.line.now r c.args.self.now c.args.self.now) _ _ c.from_residual.ensures (malformed_enters c.args.line.now _ c.args.self.now c.in_err-record.ensures.read)

pub returns-in_err-judge_turn-clause-law : goal.returns-in_err-judge_turn-clause-law
returns-in_err-judge_turn-clause-law c =
    at_exit (λ r. EntersLine c.args.line.now r c.args.self.now c.args.self.now) _ _ c.from_residual-in_err-judge_turn.ensures
    (turn_enters c.args.line.now c.in_ok-record.record _ c.args.self.now c.in_ok-record.ensures.read c.in_err-judge_turn.ensures)

pub returns-in_err-check_limits-clause-law : goal.returns-in_err-check_limits-clause-law
returns-in_err-check_limits-clause-law c =
    at_exit (λ r. EntersLine c.args.line.now r c.args.self.now c.args.self.now) _ _ c.from_residual-in_err-check_limits.ensures
    (limits_enter c.args.line.now c.in_ok-record.record _ c.args.self.now c.in_ok-record.ensures.read (in_turn_since (is_turn_at c.args.self.now.stage c.in_ok-record.record) c.in_ok-judge_turn.ensures) c.in_err-check_limits.ensures)

pub returns-clause-law : goal.returns-clause-law
returns-clause-law c =
    record_enters c.args.line.now c.in_ok-record.record c.accept.result c.args.self.now c.accept.new.self c.in_ok-record.ensures.read (in_turn_since (is_turn_at c.args.self.now.stage c.in_ok-record.record) c.in_ok-judge_turn.ensures) c.in_ok-check_limits.ensures c.accept.ensures.law
