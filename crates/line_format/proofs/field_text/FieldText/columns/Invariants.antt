-- The columns from `at` on have the last digits, the others are spaces, and the front of the number is left.
use Rattle.std.proofs.Common.{◌≡◌, ◌-◌, ◌/◌, ◌^◌, ◌≤◌, ◌++◌, replicate}
use Rattle.line_format.specs.Columns.{last_digits}
use Rattle.line_format.proofs.field_text.FieldText.columns.Given as goal

abbrev pub invariant-loop-at : goal.invariant-loop-at
invariant-loop-at l = (10 - l.digits ≤ l.at) × ((l.columns ≡ replicate l.at 32 ++ last_digits (10 - l.at) l.value) × (l.rest ≡ l.value / 10 ^ (10 - l.at)))
