use Rattle.line_format.proofs.Exits.{at_exit}
use Rattle.line_format.specs.Line.{WritesAgain}
use Rattle.line_format.proofs.line.write_again.Goals as goal

pub returns-in_err-record : goal.returns-in_err-record
returns-in_err-record c =
    at_exit (WritesAgain c.args.bytes.now) _ _ c.from_residual.ensures c.in_err-record.ensures.read
