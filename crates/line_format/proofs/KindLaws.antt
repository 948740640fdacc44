-- Laws of every kind: so many columns, and one value for them. Assumes nothing.
use Rattle.std.proofs.Common.{◌≡◌, ℕ, cond, T, eqb, List, length, get_or, Err, sym, refl, ap, ◌∙◌, arith}
use Rattle.terms.specs.ReadingType.{letter_of}
use Rattle.terms.specs.declared.refusal.Refusal.{Refusal}
use Rattle.line_format.specs.Columns.{InvertsWriting}
use Rattle.line_format.specs.FieldValue.{ReadsField}
use Rattle.line_format.specs.SignedDigits.{text_columns, text_fits}
use Rattle.line_format.specs.declared.signed_digits.SignedDigits.{SignedDigits}
use Rattle.line_format.specs.Kind.{Kind, Value, width, fits, columns, number, signed, date, blank, reading_type, no_letter}
use Rattle.terms.specs.declared.reading_type.ReadingType.{ReadingType}
use Rattle.terms.specs.declared.reading_type.ReadingType.TheVariants.{Actual, Substituted, Estimated, CustomersOwn}
use Rattle.line_format.proofs.KindTexts.{number_sort, signed_sort, date_sort, blank_sort, stands, ten_columns, same_from_columns}

pub length_columns : (k : Kind) (x : Value k) → T (fits k x) → length (columns k x) ≡ width k
length_columns number n h = ten_columns number_sort n h
length_columns signed z h = ten_columns signed_sort z h
length_columns date n h = ten_columns date_sort n h
length_columns blank _ h = ten_columns blank_sort tt tt
length_columns reading_type t h = refl
length_columns no_letter _ h = refl

-- each letter stands for one type
type_of : ℕ → ReadingType
type_of n = cond (eqb n 65) Actual (cond (eqb n 83) Substituted (cond (eqb n 69) Estimated CustomersOwn))

type_back : (t : ReadingType) → type_of (letter_of t) ≡ t
unfolding type_of
type_back Actual = refl
type_back Substituted = refl
type_back Estimated = refl
type_back CustomersOwn = refl

same_type : (s t : ReadingType) → letter_of s ≡ letter_of t → s ≡ t
same_type s t e = sym (type_back s) ∙ ap type_of e ∙ type_back t

pub value_from_columns : (k : Kind) (x y : Value k) → T (fits k x) → T (fits k y) → columns k x ≡ columns k y → x ≡ y
value_from_columns number m n h k e = same_from_columns number_sort m n h k e
value_from_columns signed m n h k e = same_from_columns signed_sort m n h k e
value_from_columns date m n h k e = same_from_columns date_sort m n h k e
value_from_columns blank m n h k e = refl
value_from_columns reading_type s t h k e = same_type s t (ap (λ l. get_or l 0 0) e)
value_from_columns no_letter m n h k e = refl

-- what takes ten columns stands there as a text, so columns that are no text are read as nothing
stands_as_text : (k : Kind) → width k ≡ 10 → (x : Value k) → T (fits k x) → (t : SignedDigits) × T (text_fits t) × (columns k x ≡ text_columns t)
stands_as_text number ten n h = stands number_sort n h
stands_as_text signed ten z h = stands signed_sort z h
stands_as_text date ten n h = stands date_sort n h
stands_as_text blank ten _ h = stands blank_sort tt tt
stands_as_text reading_type ten t h = absurd (omega arith)
stands_as_text no_letter ten _ h = absurd (omega arith)

pub no_text : {X : Type 0} (k : Kind) (value_of : X → Value k) → width k ≡ 10 → (bytes : List ℕ) (e : Refusal) → InvertsWriting text_fits text_columns bytes (Err e) → ReadsField k value_of bytes (Err e)
no_text k value_of ten bytes e q = (q.0, λ x h f. let t = stands_as_text k ten x h in q.1 t.0 t.1 (f ∙ t.2))
