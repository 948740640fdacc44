-- The kinds of what may stand in the columns of a line.
use Rattle.std.specs.Prelude.{◌≡◌, ℕ, Bool, true, T, List, [], ◌∷◌, ℤ}
use Rattle.line_format.specs.Columns.{number_columns, signed_columns, date_columns, blank_columns, number_fits, signed_fits, date_fits}
use Rattle.terms.specs.ReadingType.{letter_of}
use Rattle.terms.specs.declared.reading_type.ReadingType.{ReadingType}

-- a number, a number that may be negative, a date, an unused field; a type of reading, no letter
pub data Kind : Type 0 where
  number : Kind
  signed : Kind
  date : Kind
  blank : Kind
  reading_type : Kind
  no_letter : Kind

-- the values of each kind
abbrev pub Value : Kind → Type 0
Value number = ℕ
Value signed = ℤ
Value date = ℕ
Value blank = Unit {0}
Value reading_type = ReadingType
Value no_letter = Unit {0}

-- how many columns each kind takes
abbrev pub width : Kind → ℕ
width reading_type = 1
width no_letter = 1
width _ = 10

-- which values fit their columns
abbrev pub fits : (k : Kind) → Value k → Bool
fits number n = number_fits n
fits signed z = signed_fits z
fits date d = date_fits d
fits _ _ = true

-- the columns of a value
abbrev pub columns : (k : Kind) → Value k → List ℕ
columns number n = number_columns n
columns signed z = signed_columns z
columns date d = date_columns d
columns blank _ = blank_columns
columns reading_type t = letter_of t ∷ []
columns no_letter _ = 32 ∷ []

-- the bytes are the columns of a value that fits
abbrev pub HasValue : Kind → List ℕ → Type 0
HasValue k bytes = (x : Value k) × T (fits k x) × (bytes ≡ columns k x)
