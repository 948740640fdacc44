use Rattle.std.proofs.Common.{refl}
use Rattle.line_format.proofs.KindTexts.{blank_sort, written_as}
use Rattle.line_format.proofs.blank.BlankFieldValue.to_text.Goals as goal

pub returns : goal.returns
returns c = written_as blank_sort tt _ refl refl
