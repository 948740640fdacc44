-- The half of a fall-back that answers.
use Rattle.std.specs.Prelude.{ℕ, Some, None, Option}
use Rattle.degreedays.specs.declared.answer.Half.{Half}
use Rattle.degreedays.specs.declared.answer.Half.TheVariants.{First, Second}

-- the first where it has a figure, else the second where it has one
abbrev pub answering_half : Option ℕ → Option ℕ → Option Half
answering_half (Some x) second = Some First
answering_half None (Some y) = Some Second
answering_half None None = None
