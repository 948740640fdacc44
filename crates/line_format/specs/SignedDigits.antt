-- Digits, perhaps after a minus, at the right of ten columns.
use Rattle.std.specs.Prelude.{ℕ, ◌+◌, ◌-◌, ◌^◌, Bool, true, false, if◌then◌else◌, not, ◌&&◌, ◌||◌, List, [], ◌∷◌, ◌++◌, length, ℤ, pos, neg_ℤ, decimal, ◌==◌, nat_le, nat_lt}
use Rattle.line_format.specs.Columns.{right_aligned, last_digits}
use Rattle.line_format.specs.declared.signed_digits.SignedDigits.{SignedDigits}

-- the minus, where there is one
abbrev pub sign : Bool → List ℕ
sign true = 45 ∷ []
sign false = []

-- the columns of a sign and so many digits of a number
unfoldable pub columns_of : Bool → ℕ → ℕ → List ℕ
columns_of minus digits value = right_aligned (sign minus ++ last_digits digits value)

-- the columns that a text takes
abbrev pub text_columns : SignedDigits → List ℕ
text_columns t = columns_of t.minus t.digits t.value

-- the digits suffice for the number, and with the sign they fit ten columns
abbrev pub text_fits : SignedDigits → Bool
text_fits t = nat_lt t.value (10 ^ t.digits) && nat_le ((if t.minus then 1 else 0) + t.digits) 10

-- one digit, or more of which the first is no zero
abbrev pub has_no_leading_zero : ℕ → ℕ → Bool
has_no_leading_zero digits value =
    digits == 1 || (nat_lt 1 digits && nat_le (10 ^ (digits - 1)) value)

-- a number: no minus, and no leading zero
abbrev pub is_number : SignedDigits → Bool
is_number t = not t.minus && has_no_leading_zero t.digits t.value

-- a number that may be negative: no leading zero, and not minus zero
abbrev pub is_signed : SignedDigits → Bool
is_signed t = has_no_leading_zero t.digits t.value && not (t.minus && t.value == 0)

-- the number with its sign
abbrev pub signed_value : SignedDigits → ℤ
signed_value t = if t.minus then neg_ℤ (pos t.value) else pos t.value

-- a date: eight digits
abbrev pub is_eight_digits : SignedDigits → Bool
is_eight_digits t = not t.minus && t.digits == 8

-- an unused field: nothing
abbrev pub is_blank : SignedDigits → Bool
is_blank t = not t.minus && t.digits == 0

-- a number with no leading zero
abbrev pub of_number : Bool → ℕ → SignedDigits
of_number minus n = record { minus = minus; digits = length (decimal n); value = n }

-- a date
abbrev pub of_date : ℕ → SignedDigits
of_date date = record { minus = false; digits = 8; value = date }

-- an unused field
abbrev pub no_digits : SignedDigits
no_digits = record { minus = false; digits = 0; value = 0 }
