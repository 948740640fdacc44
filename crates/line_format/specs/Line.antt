-- How a line is read, and where it is at fault.
use Rattle.std.specs.Prelude.{◌≡◌, ◌≢◌, ℕ, ◌+◌, ◌-◌, min, Bool, true, false, ◌&&◌, if◌then◌else◌, T, ◌⊎◌, List, length, take, Some, None, Ok, Err, Result, ◌==◌, slice_index}
use Rattle.terms.specs.Refusal.{number_of}
use Rattle.line_format.specs.Fault.{on_line}
use Rattle.line_format.specs.Limits.{verdict}
use Rattle.line_format.specs.Record.{contents, tag_of, record_fits, record_bytes}
use Rattle.line_format.specs.Segment.{segments, IsLeftmostFault, IsMalformed, HoldsContents}
use Rattle.line_format.specs.Tag.{tag_bytes, kinds_of}
use Rattle.line_format.specs.declared.fault.Fault.{Fault}
use Rattle.line_format.specs.declared.fault.LineFault.{LineFault}
use Rattle.line_format.specs.declared.limits.Limits.{Limits}
use Rattle.line_format.specs.declared.record.Record.{Record}
use Rattle.line_format.specs.declared.tag.Tag.{Tag}
use Rattle.terms.specs.RefusalNumbers.{malformed_line}

-- the bytes end with a line feed
abbrev pub ends_with_line_feed : List ℕ → Bool
ends_with_line_feed bytes = slice_index bytes (length bytes - 1) == 10

-- they are 45 and a line feed
abbrev pub is_line : List ℕ → Bool
is_line bytes = length bytes == 46 && ends_with_line_feed bytes

-- where the length is wrong: one past the end of a shorter line, column 46 of any other
abbrev pub column_past_end : List ℕ → ℕ
column_past_end bytes = min (length bytes - (if ends_with_line_feed bytes then 1 else 0)) 45 + 1

-- what the tag asks for is read as a record of this tag whose contents stand in the line,
-- or the leftmost segment at fault is named
abbrev pub ReadsContents : Tag → List ℕ → Result Record Fault → Type 0
ReadsContents t line (Ok r) = (tag_of r ≡ t) × HoldsContents line 4 (contents r)
ReadsContents t line (Err f) = IsMalformed (segments (kinds_of t) 4 line) f

-- c is the column at fault: of a wrong length, of an unknown tag, or of the leftmost segment that is not what the tag
-- asks for
pub data IsAtFault (line : List ℕ) (c : ℕ) : Type 0 where
  wrong_length : is_line line ≡ false → c ≡ column_past_end line → IsAtFault line c
  unknown_tag : is_line line ≡ true → ((t : Tag) → take 4 line ≢ tag_bytes t) → c ≡ 1
      → IsAtFault line c
  wrong_part : (t : Tag) → is_line line ≡ true → take 4 line ≡ tag_bytes t
      → IsLeftmostFault (segments (kinds_of t) 4 line) c → IsAtFault line c

-- bytes are read as the record that they are the writing of, or they are malformed and the column at fault is named
abbrev pub ReadsLine : List ℕ → Result Record Fault → Type 0
ReadsLine line (Ok r) = T (record_fits r) × (line ≡ record_bytes r)
ReadsLine line (Err f) = (number_of f.refusal ≡ malformed_line) × IsAtFault line f.column

-- bytes that are the writing of a record are read as that record
abbrev pub ReadsBack : List ℕ → Result Record Fault → Type 0
ReadsBack line r = (x : Record) → T (record_fits x) → line ≡ record_bytes x → r ≡ Ok x

-- a line that is read is written again with the same bytes
abbrev pub WritesAgain : List ℕ → Result (Record × List ℕ) Fault → Type 0
WritesAgain line (Ok p) = T (record_fits p.0) × (line ≡ record_bytes p.0) × (p.1 ≡ line)
WritesAgain line (Err f) = (number_of f.refusal ≡ malformed_line) × IsAtFault line f.column

-- the bytes are malformed at a column
abbrev pub IsMalformedAt : List ℕ → ℕ → ℕ → Type 0
IsMalformedAt bytes n c = (n ≡ 1) × IsAtFault bytes c

-- they are the writing of a record, which is refused by number n at column c
abbrev pub IsRefusedAt : List ℕ → Limits → ℕ → ℕ → Type 0
IsRefusedAt bytes l n c =
    (x : Record) × T (record_fits x) × (bytes ≡ record_bytes x) × (verdict l x ≡ Some (n, c))

-- bytes are answered by the record that they are the writing of, if it is within limits, or by the number and the
-- column of their refusal
abbrev pub ChecksRecord : List ℕ → Limits → Result Record Fault → Type 0
ChecksRecord bytes l (Ok x) =
    T (record_fits x) × (bytes ≡ record_bytes x) × (verdict l x ≡ None)
ChecksRecord bytes l (Err f) =
    IsMalformedAt bytes (number_of f.refusal) f.column
    ⊎ IsRefusedAt bytes l (number_of f.refusal) f.column

-- a line is answered as its bytes are, a refusal with the line and the layer besides
abbrev pub ChecksLine : ℕ → List ℕ → Limits → Result Record LineFault → Type 0
ChecksLine line bytes l r =
    (answer : Result Record Fault) × ChecksRecord bytes l answer × (r ≡ on_line line answer)
