use Rattle.line_format.specs.Segment.{bytes_before}
use Rattle.line_format.proofs.LineSegments.{field_read}
use Rattle.line_format.proofs.line.Line.field.Goals as goal

pub returns : goal.returns
returns g c =
    field_read g.X.FieldValue.kind g.X.FieldValue.value_of g.met.X.FieldValue.ten_columns c.args.self.now.bytes (bytes_before c.args.field) _ _ _ _ c.columns.ensures c.column.ensures c.read.ensures c.at_column.ensures
