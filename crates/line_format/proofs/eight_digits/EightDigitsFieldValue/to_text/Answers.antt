use Rattle.std.proofs.Common.{arith}
use Rattle.std.proofs.lemmas.Bool.{lt-ltb}
use Rattle.line_format.proofs.KindTexts.{date_sort, has_room, written_as}
use Rattle.line_format.proofs.eight_digits.EightDigitsFieldValue.to_text.Goals as goal

pub invariant_of-result : goal.invariant_of-result
invariant_of-result c = record { fits = has_room date_sort c.args.self.0 _ (lt-ltb _ _ (omega arith)) c.of_date.ensures }

pub returns : goal.returns
returns c = written_as date_sort c.args.self.0 _ (lt-ltb _ _ (omega arith)) c.of_date.ensures
