use Rattle.std.proofs.Common.{refl}
use Rattle.line_format.proofs.Digits.{read_more, no_digits}
use Rattle.line_format.proofs.signed_digits.digits_value.Goals as goal

pub returns-then-not-is_ascii_digit : goal.returns-then-not-is_ascii_digit
returns-then-not-is_ascii_digit c =
    (refl, λ v _ e. no_digits _ _ c.loop-byte-test.true c.if-not-is_ascii_digit.ensures.cases v e)

pub loop-byte-preserved : goal.loop-byte-preserved
loop-byte-preserved c =
    read_more _ _ _ _ c.loop-byte-test.true c.if-not-is_ascii_digit.ensures.cases c.from.ensures c.loop-byte.invariant
