use Rattle.std.proofs.Common.{◌≡◌, ℕ, pos, ℤ, nat_abs, ◌∙◌, w64, SFits, to_z, of_z, rules}
use lib.Signed.{lt_z}
use Rattle.std.proofs.lemmas.Int.{to_z-of_z}
use Rattle.line_format.specs.SignedDigits.{of_number}
use Rattle.line_format.specs.declared.signed_digits.SignedDigits.{SignedDigits}
use Rattle.line_format.proofs.KindTexts.{signed_sort, signed_plain, signed_plain_is, signed_limits, has_room, written_as}
use Rattle.line_format.proofs.field_value.I64FieldValue.to_text.Goals as goal

-- the text that the code makes is that of the number
made : (z : ℤ) (n : ℕ) (t : SignedDigits) → SFits w64 z → n ≡ nat_abs (to_z w64 (of_z w64 z)) → t ≡ of_number (lt_z (to_z w64 (of_z w64 z)) (pos 0)) n → t ≡ signed_plain z
made z n t fits e f = f ∙ rw (e, to_z-of_z) (signed_plain_is z)

pub invariant_of-result : goal.invariant_of-result
invariant_of-result c =
    let text = made c.args.self _ _ c.ranges.self c.unsigned_abs.ensures.value c.of_number.ensures in
    record { fits = has_room signed_sort c.args.self _ (signed_limits c.args.self (search rules)) text }

pub returns : goal.returns
returns c =
    let text = made c.args.self _ _ c.ranges.self c.unsigned_abs.ensures.value c.of_number.ensures in
    written_as signed_sort c.args.self _ (signed_limits c.args.self (search rules)) text
