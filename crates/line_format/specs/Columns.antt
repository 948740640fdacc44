-- How values stand in columns, and reading as the inverse of writing.
use Rattle.std.specs.Prelude.{◌≡◌, ◌≢◌, ℕ, zero, suc, ◌+◌, ◌-◌, ◌/◌, ◌%◌, ◌^◌, Bool, T, List, [], ◌∷◌, ◌++◌, length, replicate, ℤ, pos, negsuc, nat_lt, Ok, Err, Result}
use Rattle.std.specs.Fmt as fmt
use Rattle.terms.specs.Refusal.{number_of}
use Rattle.terms.specs.declared.refusal.Refusal.{Refusal}
use Rattle.terms.specs.RefusalNumbers.{malformed_line}

-- a text at the right of ten columns, spaces before it
abbrev pub right_aligned : List ℕ → List ℕ
right_aligned text = replicate (10 - length text) 32 ++ text

-- the last k digits of a number, leading zeros kept
abbrev pub last_digits : ℕ → ℕ → List ℕ
last_digits zero n = []
last_digits (suc k) n = (48 + n / 10 ^ k % 10) ∷ last_digits k n

-- a number: its decimal digits, no leading zero
unfoldable pub number_columns : ℕ → List ℕ
number_columns n = right_aligned (fmt.decimal n)

-- a number that may be negative: a minus directly before its digits
unfoldable pub signed_columns : ℤ → List ℕ
signed_columns z = right_aligned (fmt.signed_decimal z)

-- a date: its eight digits
unfoldable pub date_columns : ℕ → List ℕ
date_columns date = right_aligned (last_digits 8 date)

-- an unused field: spaces
abbrev pub blank_columns : List ℕ
blank_columns = replicate 10 32

-- the numbers that fit ten columns
abbrev pub number_fits : ℕ → Bool
number_fits n = nat_lt n (10 ^ 10)

-- the numbers that fit ten columns with their minus
abbrev pub signed_fits : ℤ → Bool
signed_fits (pos n) = nat_lt n (10 ^ 10)
signed_fits (negsuc n) = nat_lt (suc n) (10 ^ 9)

-- the numbers that fit eight digits
abbrev pub date_fits : ℕ → Bool
date_fits date = nat_lt date (10 ^ 8)

-- the bytes are read as a value that fits and of which they are the writing;
-- where they are the writing of no such value they are malformed
abbrev pub InvertsWriting : {X : Type 0}
    → (X → Bool) → (X → List ℕ) → List ℕ → Result X Refusal → Type 0
InvertsWriting {X} fits writing bytes (Ok x) = T (fits x) × (bytes ≡ writing x)
InvertsWriting {X} fits writing bytes (Err e) =
    (number_of e ≡ malformed_line) × ((x : X) → T (fits x) → bytes ≢ writing x)
