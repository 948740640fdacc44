-- The segments of a line, read one by one. Assumes nothing.
use Rattle.std.proofs.Common.{◌≡◌, ℕ, ◌+◌, ◌-◌, Bool, true, false, ◌&&◌, T, eqb, List, [], ◌∷◌, ◌++◌, length, get_or, take, drop, Ok, Err, Result, sym, ap, ◌∙◌, subst, append_assoc, add-zero, add_assoc, arith}
use Rattle.std.specs.List.{flat_map}
use Rattle.std.proofs.lemmas.List.{take-append-drop, drop-drop, drop_more, drop_all}
use Rattle.std.proofs.lemmas.Bool.{and_parts, eqb-true}
use Rattle.terms.specs.declared.refusal.Refusal.{Refusal}
use Rattle.line_format.specs.Kind.{Kind, Value, width, fits, columns, blank, no_letter}
use Rattle.line_format.specs.Columns.{InvertsWriting}
use Rattle.line_format.specs.FieldValue.{ReadsField}
use Rattle.line_format.specs.Segment.{Segment, segment, IsLeftmostFault, HoldsValue, IsMalformed, ReadsSegment, ReadsSegmentAs, ReadsUnusedRest, HoldsContents, none, next, here, further}
use Rattle.line_format.specs.Fault.{at_column}
use Rattle.line_format.specs.Record.{Content, all_fit, line_bytes}
use Rattle.line_format.specs.Tag.{tag_bytes}
use Rattle.line_format.specs.Line.{is_line, ends_with_line_feed}
use Rattle.line_format.specs.declared.fault.Fault.{Fault}
use Rattle.line_format.specs.declared.tag.Tag.{Tag}

first : {p : Segment} {ps : List Segment} {c : ℕ} → IsLeftmostFault (p ∷ []) c → IsLeftmostFault (p ∷ ps) c
first (here e bad) = here e bad
first (further good more) = elim more [ ]

T_and : (x y : Bool) → T x → T y → T (x && y)
T_and true y p q = q
T_and false y p q = p

-- a segment at fault, and one further right than a good one
pub at : {p : Segment} {ps : List Segment} {f : Fault} → IsMalformed (p ∷ []) f → IsMalformed (p ∷ ps) f
at {p} {ps} {f} m = record { refusal = m.refusal; column = first m.column }

pub past : {p : Segment} {x : Value p.kind} {ps : List Segment} {f : Fault} → HoldsValue p x → IsMalformed ps f → IsMalformed (p ∷ ps) f
past {p} {x} s m = record { refusal = m.refusal; column = further (x, s.fit, s.written) m.column }

-- what is read of a part's bytes, with its column, is read of the part
pub segment_read_as : {X : Type 0} (p : Segment) (value_of : X → Value p.kind) (bytes : List ℕ) (c : ℕ) (q : Result X Refusal) (r : Result X Fault) → bytes ≡ p.bytes → c ≡ p.column → ReadsField p.kind value_of bytes q → r ≡ at_column c q → ReadsSegmentAs p value_of r
segment_read_as p value_of bytes c (Ok x) r same start read e =
    subst (ReadsSegmentAs p value_of) (sym e) (record { fit = read.0; written = sym same ∙ read.1 })
segment_read_as p value_of bytes c (Err f) r same start read e =
    subst (ReadsSegmentAs p value_of) (sym e) (record { refusal = read.0; column = here start (λ good. read.1 good.0 good.1 (same ∙ good.2)) })

-- the same of a field of ten columns
pub field_read : {X : Type 0} (k : Kind) (value_of : X → Value k) → width k ≡ 10 → (line : List ℕ) (start : ℕ) (bytes : List ℕ) (c : ℕ) (q : Result X Refusal) (r : Result X Fault) → bytes ≡ take 10 (drop start line) → c ≡ start + 1 → ReadsField k value_of bytes q → r ≡ at_column c q → ReadsSegmentAs (segment k start line) value_of r
field_read k value_of ten line start bytes c q r same column read e =
    segment_read_as (segment k start line) value_of bytes c q r (same ∙ ap (λ n. take n (drop start line)) (sym ten)) column read e

-- the same where the value is what it holds
read_as_itself : (k : Kind) (bytes : List ℕ) (q : Result (Value k) Refusal) → InvertsWriting (fits k) (columns k) bytes q → ReadsField k (λ x. x) bytes q
read_as_itself k bytes (Ok x) read = read
read_as_itself k bytes (Err e) read = read

pub segment_read : (p : Segment) (bytes : List ℕ) (c : ℕ) (q : Result (Value p.kind) Refusal) (r : Result (Value p.kind) Fault) → bytes ≡ p.bytes → c ≡ p.column → InvertsWriting (fits p.kind) (columns p.kind) bytes q → r ≡ at_column c q → ReadsSegment p r
segment_read p bytes c q r same start read e =
    segment_read_as p (λ x. x) bytes c q r same start (read_as_itself p.kind bytes q read) e

-- the letter's column
pub letter_segment : (line : List ℕ) → length line ≡ 46 → get_or line 44 0 ∷ [] ≡ take 1 (drop 44 line)
letter_segment line h = ap (take 1) (sym (drop_more line 44 0 (omega arith)))

-- the bytes from n on, cut behind the next k
cut : (line : List ℕ) (n k : ℕ) (xs : List ℕ) → take k (drop n line) ≡ xs → drop n line ≡ xs ++ drop (n + k) line
cut line n k xs e = sym (take-append-drop k (drop n line)) ∙ rw (e, drop-drop)

-- how many columns they take
abbrev pub widths : List Content → ℕ
widths [] = 0
widths (c ∷ cs) = width c.kind + widths cs

stand_fit : {line : List ℕ} {n : ℕ} {cs : List Content} → HoldsContents line n cs → T (all_fit cs)
stand_fit none = tt
stand_fit (next {k = k} {x = x} {cs = cs} s rest) = T_and (fits k x) (all_fit cs) s.fit (stand_fit rest)

stand_join : {line : List ℕ} {n : ℕ} {cs : List Content} → HoldsContents line n cs → drop n line ≡ flat_map (λ c. columns c.kind c.value) cs ++ drop (n + widths cs) line
stand_join {line} {n} none = rw add-zero
stand_join {line} {n} (next {k = k} {x = x} {cs = cs} s rest) =
    let more = stand_join rest in
    cut line n (width k) (columns k x) s.written ∙ rw (more, append_assoc, add_assoc)

-- a whole line is its tag, its contents and a line feed
pub assembled : (t : Tag) (line : List ℕ) {cs : List Content} → is_line line ≡ true → take 4 line ≡ tag_bytes t → HoldsContents line 4 cs → widths cs ≡ 41 → T (all_fit cs) × (line ≡ line_bytes t cs)
assembled t line {cs} h tag s w =
    let p = and_parts (eqb (length line) 46) (ends_with_line_feed line) h in
    let long = eqb-true (length line) 46 p.0 in
    let last : length line - 1 ≡ 45 = omega arith in
    let feed : get_or line 45 0 ≡ 10 = rw last at (eqb-true (get_or line (length line - 1) 0) 10 p.1) in
    let rest = stand_join s in
    let start : take 4 line ++ drop 4 line ≡ line = take-append-drop 4 line in
    let end : drop 45 line ≡ 10 ∷ [] = drop_more line 45 0 (omega arith) ∙ rw (feed, drop_all 46 line (omega arith)) in
    let more : 4 + widths cs ≡ 45 = omega arith in
    (stand_fit s, sym start ∙ rw (tag, rest, more, end))

-- the fourth field and the letter
pub rest_read : (line : List ℕ) (r : Result (Unit {0}) Fault) → HoldsValue (segment blank 34 line) tt → ReadsSegment (segment no_letter 44 line) r → ReadsUnusedRest line r
rest_read line (Ok x) s p = (s, p)
rest_read line (Err f) s p = past s p
