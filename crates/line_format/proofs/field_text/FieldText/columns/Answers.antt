use Rattle.std.proofs.Common.{arith}
use Rattle.line_format.proofs.DigitColumns.{digit_more, placed_unsigned, placed_signed}
use Rattle.line_format.proofs.field_text.FieldText.columns.Goals as goal

pub loop-at-preserved : goal.loop-at-preserved
loop-at-preserved c = (omega arith, digit_more _ _ _ _ (omega arith) (omega arith) c.loop-at.invariant.1)

pub returns-then-minus : goal.returns-then-minus
returns-then-minus c =
    placed_signed _ c.loop-at.at _ c.args.self.now.fits c.if-minus.true (omega arith) c.loop-at.invariant.1.0

pub returns-else-minus : goal.returns-else-minus
returns-else-minus c =
    placed_unsigned _ c.loop-at.at _ c.args.self.now.fits c.if-minus.false (omega arith) c.loop-at.invariant.1.0
