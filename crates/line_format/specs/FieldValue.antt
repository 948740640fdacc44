-- How a field's value is read from its columns and written in them.
use Rattle.std.specs.Prelude.{◌≡◌, ◌≢◌, ℕ, true, false, T, List, Some, None, Option, Ok, Err, Result}
use Rattle.terms.specs.declared.refusal.Refusal.{Refusal}
use Rattle.line_format.specs.Columns.{InvertsWriting}
use Rattle.line_format.specs.Kind.{Kind, Value, fits, columns}
use Rattle.line_format.specs.SignedDigits.{text_columns}
use Rattle.line_format.specs.declared.field_text.FieldText.{FieldText}

-- the columns are read as what has the value that they are the writing of
abbrev pub ReadsField : {X : Type 0}
    (k : Kind) → (X → Value k) → List ℕ → Result X Refusal → Type 0
ReadsField k value_of bytes (Ok x) = InvertsWriting (fits k) (columns k) bytes (Ok (value_of x))
ReadsField k value_of bytes (Err e) = InvertsWriting (fits k) (columns k) bytes (Err e)

-- the text is read as what has the value that it is the writing of, or is the writing of no value of this kind
abbrev pub ReadsText : {X : Type 0} (k : Kind) → (X → Value k) → FieldText → Option X → Type 0
ReadsText k value_of t (Some x) =
    T (fits k (value_of x)) × (text_columns t.text ≡ columns k (value_of x))
ReadsText k value_of t None = (x : Value k) → T (fits k x) → text_columns t.text ≢ columns k x

-- a value is written as the text, or does not fit its columns
abbrev pub WritesText : (k : Kind) → Value k → Option FieldText → Type 0
WritesText k x (Some t) = (fits k x ≡ true) × (text_columns t.text ≡ columns k x)
WritesText k x None = fits k x ≡ false
