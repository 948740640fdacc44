use Rattle.std.proofs.Common.{rules}
use Rattle.line_format.proofs.KindTexts.{signed_sort, by_sort}
use Rattle.line_format.proofs.field_value.I64FieldValue.from_text.Goals as goal

pub returns : goal.returns
returns c = by_sort signed_sort (λ z. z) c.args.text _ _ _ c.is_signed.ensures (search rules) c.then_some.ensures
