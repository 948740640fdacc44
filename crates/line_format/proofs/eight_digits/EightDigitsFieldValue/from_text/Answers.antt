use Rattle.std.proofs.Common.{rules}
use Rattle.line_format.proofs.KindTexts.{date_sort, by_test}
use Rattle.line_format.proofs.eight_digits.EightDigitsFieldValue.from_text.Goals as goal

pub returns : goal.returns
returns c =
    by_test date_sort (λ d. d.0) c.args.text _ _ c.is_eight_digits.ensures c.then.ensures.variant (search rules)
