use Rattle.std.proofs.Common.{refl}
use Rattle.line_format.proofs.KindTexts.{number_sort, by_sort}
use Rattle.line_format.proofs.field_value.U64FieldValue.from_text.Goals as goal

pub returns : goal.returns
returns c = by_sort number_sort (λ x. x) c.args.text _ _ _ c.is_number.ensures refl c.then_some.ensures
