use Rattle.line_format.proofs.Exits.{at_exit}
use Rattle.line_format.specs.Segment.{ReadsThree}
use Rattle.line_format.proofs.LineSegments.{at, past}
use Rattle.line_format.proofs.line.Line.three.Goals as goal

pub returns-in_err-first : goal.returns-in_err-first
returns-in_err-first g c =
    at_exit (ReadsThree g.X.FieldValue.kind g.Y.FieldValue.kind g.Z.FieldValue.kind g.X.FieldValue.value_of g.Y.FieldValue.value_of g.Z.FieldValue.value_of c.args.self.now.bytes) _ _ c.from_residual.ensures (at c.in_err-first.ensures)

pub returns-in_err-second : goal.returns-in_err-second
returns-in_err-second g c =
    at_exit (ReadsThree g.X.FieldValue.kind g.Y.FieldValue.kind g.Z.FieldValue.kind g.X.FieldValue.value_of g.Y.FieldValue.value_of g.Z.FieldValue.value_of c.args.self.now.bytes) _ _ c.from_residual-in_err-second.ensures (past c.in_ok-first.ensures (at c.in_err-second.ensures))

pub returns-in_err-third : goal.returns-in_err-third
returns-in_err-third g c =
    at_exit (ReadsThree g.X.FieldValue.kind g.Y.FieldValue.kind g.Z.FieldValue.kind g.X.FieldValue.value_of g.Y.FieldValue.value_of g.Z.FieldValue.value_of c.args.self.now.bytes) _ _ c.from_residual-in_err-third.ensures (past c.in_ok-first.ensures (past c.in_ok-second.ensures (at c.in_err-third.ensures)))

pub returns-in_err-unused_rest : goal.returns-in_err-unused_rest
returns-in_err-unused_rest g c =
    at_exit (ReadsThree g.X.FieldValue.kind g.Y.FieldValue.kind g.Z.FieldValue.kind g.X.FieldValue.value_of g.Y.FieldValue.value_of g.Z.FieldValue.value_of c.args.self.now.bytes) _ _ c.from_residual-in_err-unused_rest.ensures (past c.in_ok-first.ensures (past c.in_ok-second.ensures (past c.in_ok-third.ensures c.in_err-unused_rest.ensures)))

pub returns : goal.returns
returns g c =
    (c.in_ok-first.ensures, c.in_ok-second.ensures, c.in_ok-third.ensures, c.in_ok-unused_rest.ensures)
