-- The types of readings: which are firm, and their letters.
use Rattle.std.specs.Prelude.{◌≡◌, ◌≢◌, ℕ, Bool, true, false, Result, Ok, Err}
use Rattle.terms.specs.declared.reading_type.ReadingType.{ReadingType}
use Rattle.terms.specs.declared.reading_type.ReadingType.TheVariants.{Actual, Substituted, Estimated, CustomersOwn}
use Rattle.terms.specs.declared.reading_type.UnknownLetter.{UnknownLetter}

-- actual and substituted readings are firm; estimates and the customer's own are soft
abbrev pub is_firm : ReadingType → Bool
is_firm Actual = true
is_firm Substituted = true
is_firm Estimated = false
is_firm CustomersOwn = false

-- the letter of each type of reading: A, S, E, C
abbrev pub letter_of : ReadingType → ℕ
letter_of Actual = 65
letter_of Substituted = 83
letter_of Estimated = 69
letter_of CustomersOwn = 67

-- the letter is read as the type that it stands for, or is handed back where it stands for none
abbrev pub IsTypeOf : ℕ → Result ReadingType UnknownLetter → Type 0
IsTypeOf letter (Ok t) = letter ≡ letter_of t
IsTypeOf letter (Err e) = (e.0 ≡ letter) × ((t : ReadingType) → letter ≢ letter_of t)
