-- The bytes so far are the digits of the value so far.
use Rattle.std.proofs.Common.{◌≡◌, ◌^◌, ◌<◌, take}
use Rattle.line_format.specs.Columns.{last_digits}
use Rattle.line_format.proofs.signed_digits.digits_value.Given as goal

abbrev pub invariant-loop-byte : goal.invariant-loop-byte
invariant-loop-byte l = (l.value < 10 ^ l.byte-index) × (take l.byte-index l.bytes ≡ last_digits l.byte-index l.value)
