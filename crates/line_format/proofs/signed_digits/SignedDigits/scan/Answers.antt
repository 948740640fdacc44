use Rattle.std.proofs.Common.{length, refl, ap, ◌∙◌}
use Rattle.line_format.specs.Columns.{InvertsWriting}
use Rattle.line_format.specs.SignedDigits.{text_fits, text_columns}
use Rattle.line_format.proofs.Exits.{at_exit}
use Rattle.line_format.proofs.FieldCuts.{length_columns, cut_at, scan_found, scan_lost}
use Rattle.line_format.proofs.signed_digits.SignedDigits.scan.Goals as goal

pub returns-then-columns-ne10 : goal.returns-then-columns-ne10
returns-then-columns-ne10 c = (refl, λ t h e. c.if-columns-ne10.true (ap length e ∙ length_columns t h))

-- the columns are cut behind their spaces and their minus
pub returns-in_err-value : goal.returns-in_err-value
returns-in_err-value c =
    let q = c.in_err-value.ensures in
    let spaces = c.leading_spaces-spaces.ensures in
    let cut = cut_at _ _ _ c.if-columns-ne10.false spaces.within spaces.spaces spaces.past c.begins_with_minus-minus.ensures in
    at_exit (InvertsWriting text_fits text_columns c.args.columns.now) _ _ c.from_residual.ensures (q.0, λ t h e. let p = scan_lost _ _ _ _ t cut c.from.ensures h e in q.1 t.value p.0 p.1)

pub returns : goal.returns
returns c =
    let spaces = c.leading_spaces-spaces.ensures in
    let cut = cut_at _ _ _ c.if-columns-ne10.false spaces.within spaces.spaces spaces.past c.begins_with_minus-minus.ensures in
    scan_found _ _ _ _ _ cut c.from.ensures c.in_ok-value.ensures
