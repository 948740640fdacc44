-- The segments of a line behind its tag, and the leftmost at fault.
use Rattle.std.specs.Prelude.{◌≡◌, ◌≢◌, ℕ, ◌+◌, T, List, [], ◌∷◌, take, drop, Ok, Err, Result}
use Rattle.terms.specs.Refusal.{number_of}
use Rattle.line_format.specs.Kind.{Kind, Value, HasValue, width, fits, columns, blank, no_letter}
use Rattle.line_format.specs.Record.{Content, content}
use Rattle.line_format.specs.Tag.{tag_bytes}
use Rattle.line_format.specs.declared.fault.Fault.{Fault}
use Rattle.line_format.specs.declared.field.Field.{Field}
use Rattle.line_format.specs.declared.field.Field.TheVariants.{First, Second, Third, Fourth}
use Rattle.line_format.specs.declared.tag.Tag.{Tag}
use Rattle.terms.specs.RefusalNumbers.{malformed_line}

-- how many bytes of the line stand before a field
abbrev pub bytes_before : Field → ℕ
bytes_before First = 4
bytes_before Second = 14
bytes_before Third = 24
bytes_before Fourth = 34

-- a segment of a line, a field or the letter's column: its first column, what should stand in it, and what does
pub record Segment : Type 0 where
  pub column : ℕ
  pub kind : Kind
  pub bytes : List ℕ

-- the segment of a kind behind so many bytes of the line
abbrev pub segment : Kind → ℕ → List ℕ → Segment
segment k n line = record { column = n + 1; kind = k; bytes = take (width k) (drop n line) }

-- segments of the kinds given, one behind the other
abbrev pub segments : List Kind → ℕ → List ℕ → List Segment
segments [] n line = []
segments (k ∷ ks) n line = segment k n line ∷ segments ks (n + width k) line

-- a value of the segment's kind stands in it
abbrev pub IsWellFormed : Segment → Type 0
IsWellFormed s = HasValue s.kind s.bytes

-- c is the first column of the leftmost segment that is not well formed
pub data IsLeftmostFault : List Segment → ℕ → Type 0 where
  here : {s : Segment} {ss : List Segment} {c : ℕ}
      → c ≡ s.column → (IsWellFormed s → ⊥) → IsLeftmostFault (s ∷ ss) c
  further : {s : Segment} {ss : List Segment} {c : ℕ}
      → IsWellFormed s → IsLeftmostFault ss c → IsLeftmostFault (s ∷ ss) c

-- the value x stands in the segment
pub record HoldsValue (s : Segment) (x : Value s.kind) : Type 0 where
  pub fit : T (fits s.kind x)
  pub written : s.bytes ≡ columns s.kind x

-- the contents stand one behind the other from n on
pub data HoldsContents (line : List ℕ) : ℕ → List Content → Type 0 where
  none : {n : ℕ} → HoldsContents line n []
  next : {n : ℕ} {k : Kind} {x : Value k} {cs : List Content}
      → HoldsValue (segment k n line) x → HoldsContents line (n + width k) cs
      → HoldsContents line n (content k x ∷ cs)

-- the leftmost of the segments at fault is named as malformed
pub record IsMalformed (ss : List Segment) (f : Fault) : Type 0 where
  pub refusal : number_of f.refusal ≡ malformed_line
  pub column : IsLeftmostFault ss f.column

-- the tag is read, or it is no tag and column 1 is at fault
abbrev pub ReadsTag : List ℕ → Result Tag Fault → Type 0
ReadsTag line (Ok t) = take 4 line ≡ tag_bytes t
ReadsTag line (Err f) =
    (number_of f.refusal ≡ malformed_line) × (f.column ≡ 1) × ((t : Tag) → take 4 line ≢ tag_bytes t)

-- a segment is read as what has the value that stands in it, or is malformed
abbrev pub ReadsSegmentAs : {X : Type 0} (s : Segment) → (X → Value s.kind) → Result X Fault → Type 0
ReadsSegmentAs s value_of (Ok x) = HoldsValue s (value_of x)
ReadsSegmentAs s value_of (Err f) = IsMalformed (s ∷ []) f

-- a segment is read as the value that stands in it, or is malformed
abbrev pub ReadsSegment : (s : Segment) → Result (Value s.kind) Fault → Type 0
ReadsSegment s r = ReadsSegmentAs s (λ x. x) r

-- the fourth field and the letter are read as unused, or one is malformed
abbrev pub ReadsUnusedRest : List ℕ → Result (Unit {0}) Fault → Type 0
ReadsUnusedRest line (Ok _) =
    HoldsValue (segment blank 34 line) tt × HoldsValue (segment no_letter 44 line) tt
ReadsUnusedRest line (Err f) = IsMalformed (segments (blank ∷ no_letter ∷ []) 34 line) f

-- the segments of a line that holds something in its first three fields
abbrev pub three_segments : Kind → Kind → Kind → List ℕ → List Segment
three_segments j k l line =
    segment j 4 line ∷ segment k 14 line ∷ segment l 24 line
    ∷ segments (blank ∷ no_letter ∷ []) 34 line

-- the first three fields are read as what has the values that stand in them, and the rest as unused;
-- or the leftmost segment at fault is named
abbrev pub ReadsThree : {X Y Z : Type 0} (j k l : Kind)
    → (X → Value j) → (Y → Value k) → (Z → Value l) → List ℕ → Result (X × Y × Z) Fault → Type 0
ReadsThree j k l first second third line (Ok p) =
    HoldsValue (segment j 4 line) (first p.0)
    × HoldsValue (segment k 14 line) (second p.1)
    × HoldsValue (segment l 24 line) (third p.2)
    × ReadsUnusedRest line (Ok tt)
ReadsThree j k l first second third line (Err f) = IsMalformed (three_segments j k l line) f
