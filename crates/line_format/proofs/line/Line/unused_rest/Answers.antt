use Rattle.line_format.proofs.Exits.{at_exit}
use Rattle.line_format.specs.Segment.{ReadsUnusedRest}
use Rattle.line_format.proofs.LineSegments.{at, rest_read}
use Rattle.line_format.proofs.line.Line.unused_rest.Goals as goal

pub returns-in_err-field : goal.returns-in_err-field
returns-in_err-field c =
    at_exit (ReadsUnusedRest c.args.self.now.bytes) _ _ c.from_residual.ensures (at c.in_err-field.ensures)

pub returns : goal.returns
returns c = rest_read c.args.self.now.bytes _ c.in_ok-field.ensures c.no_letter.ensures
