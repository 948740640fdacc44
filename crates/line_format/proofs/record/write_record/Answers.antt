use Rattle.line_format.proofs.Exits.{at_exit}
use Rattle.line_format.specs.Record.{WritesRecord}
use Rattle.line_format.proofs.LineBytes.{unfit_unwritten}
use Rattle.line_format.proofs.record.write_record.Goals as goal

pub returns-in_err-line : goal.returns-in_err-line
returns-in_err-line c =
    let written = c.args.record.now in
    let buffer = c.args.buffer.now in
    at_exit (WritesRecord written buffer buffer) _ _ c.from_residual.ensures (unfit_unwritten written buffer _ c.in_err-line.ensures)
