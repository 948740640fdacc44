use Rattle.std.proofs.Common.{refl}
use Rattle.line_format.proofs.KindTexts.{blank_sort, by_sort}
use Rattle.line_format.proofs.blank.BlankFieldValue.from_text.Goals as goal

pub returns : goal.returns
returns c = by_sort blank_sort (λ _. tt) c.args.text _ _ _ c.is_blank.ensures refl c.then_some.ensures
