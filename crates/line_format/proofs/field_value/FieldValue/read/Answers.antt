use Rattle.line_format.specs.FieldValue.{ReadsField}
use Rattle.line_format.proofs.Exits.{at_exit}
use Rattle.line_format.proofs.KindLaws.{no_text}
use Rattle.line_format.proofs.field_value.FieldValue.read.Goals as goal

pub returns-in_err-text : goal.returns-in_err-text
returns-in_err-text g c =
    let m = g.Self.FieldValue in
    at_exit (ReadsField m.kind m.value_of c.args.columns.now) _ _ c.from_residual.ensures (no_text m.kind m.value_of g.met.Self.FieldValue.ten_columns c.args.columns.now _ c.in_err-text.ensures)
