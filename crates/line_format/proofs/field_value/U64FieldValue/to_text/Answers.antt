use Rattle.std.proofs.Common.{arith}
use Rattle.std.proofs.lemmas.Bool.{lt-ltb}
use Rattle.line_format.proofs.KindTexts.{number_sort, has_room, written_as}
use Rattle.line_format.proofs.field_value.U64FieldValue.to_text.Goals as goal

pub invariant_of-result : goal.invariant_of-result
invariant_of-result c = record { fits = has_room number_sort c.args.self _ (lt-ltb _ _ (omega arith)) c.of_number.ensures }

pub returns : goal.returns
returns c = written_as number_sort c.args.self _ (lt-ltb _ _ (omega arith)) c.of_number.ensures
