-- A record has one writing, and a writing is of one record. Assumes nothing.
use Rattle.std.proofs.Common.{◌≡◌, ℕ, ◌+◌, ◌-◌, Bool, true, false, cond, ◌&&◌, T, eqb, List, [], ◌∷◌, ◌++◌, map, length, get_or, take, drop, ℤ, pos, IfErr, Ok, Err, Result, sym, refl, ap, ◌∙◌, subst, append_assoc, arith, length-append}
use mathlib.Core.List.{head-eq_of_cons-eq, tail-eq_of_cons-eq}
use Rattle.std.specs.List.{flat_map}
use Rattle.std.proofs.lemmas.List.{take_at, drop_at, drop-drop, length_push, get_or_push}
use Rattle.std.proofs.lemmas.Bool.{both_ways, and_from, eq-eqb}
use Rattle.line_format.specs.Kind.{Kind, Value, width, fits, columns, number, signed, date, reading_type}
use Rattle.terms.specs.declared.reading_type.ReadingType.{ReadingType}
use Rattle.terms.specs.declared.reading_type.ReadingType.TheVariants.{Actual}
use Rattle.line_format.proofs.KindLaws.{length_columns, value_from_columns}
use Rattle.line_format.specs.Segment.{Segment, segment, segments, IsLeftmostFault, HoldsValue, HoldsContents, none, next, here, further}
use Rattle.line_format.specs.Line.{ReadsLine, ReadsContents, IsAtFault, wrong_length, unknown_tag, wrong_part, is_line, ends_with_line_feed}
use Rattle.line_format.specs.Record.{Content, content, contents, blank_field, tag_of, all_fit, line_bytes, record_fits, record_bytes}
use Rattle.line_format.specs.Tag.{tag_bytes, kinds_of}
use Rattle.line_format.specs.declared.fault.Fault.{Fault}
use Rattle.line_format.specs.declared.record.Record.{Record}
use Rattle.line_format.specs.declared.record.Record.TheVariants as of
use Rattle.line_format.specs.declared.tag.Tag.{Tag}
use Rattle.line_format.specs.declared.tag.Tag.TheVariants.{Open, Fact, Enrl, Gate, Intv, Degd, Read}
use Rattle.line_format.proofs.LineSegments.{widths, assembled}

abbrev content_columns : Content → List ℕ
content_columns c = columns c.kind c.value

T_parts : (x y : Bool) → T (x && y) → T x × T y
T_parts true y h = (tt, h)
T_parts false y h = absurd h

-- each content of a list that fits
parts_fit : (c : Content) (cs : List Content) → T (all_fit (c ∷ cs)) → T (fits c.kind c.value) × T (all_fit cs)
parts_fit c cs h = T_parts (fits c.kind c.value) (all_fit cs) h

-- contents that are written one behind the other stand there
stands : (line : List ℕ) (n : ℕ) (cs : List Content) (rest : List ℕ) → T (all_fit cs) → drop n line ≡ flat_map content_columns cs ++ rest → HoldsContents line n cs
stands line n [] rest h e = none
stands line n (c ∷ cs) rest h e =
    let p = parts_fit c cs h in
    let long = length_columns c.kind c.value p.0 in
    let f : drop n line ≡ content_columns c ++ (flat_map content_columns cs ++ rest) = e ∙ append_assoc (content_columns c) (flat_map content_columns cs) rest in
    let first : take (width c.kind) (drop n line) ≡ content_columns c = rw f (take_at (content_columns c) (flat_map content_columns cs ++ rest) (width c.kind) long) in
    let more : drop (n + width c.kind) line ≡ flat_map content_columns cs ++ rest = sym (drop-drop (width c.kind) n line) ∙ rw f (drop_at (content_columns c) (flat_map content_columns cs ++ rest) (width c.kind) long) in
    next (record { fit = p.0; written = first }) (stands line (n + width c.kind) cs rest p.1 more)

-- then none of the parts is at fault
abbrev kinds : List Content → List Kind
kinds cs = map (λ c. c.kind) cs

no_fault : (line : List ℕ) (n : ℕ) (cs : List Content) (c : ℕ) → HoldsContents line n cs → IsLeftmostFault (segments (kinds cs) n line) c → ⊥
no_fault line n [] c none l = elim l [ ]
no_fault line n (d ∷ cs) c (next s rest) (here e bad) = bad (d.value, s.fit, s.written)
no_fault line n (d ∷ cs) c (next s rest) (further good l) = no_fault line (n + width d.kind) cs c rest l

-- a segment holds one value, so contents of the same kinds are the same
same_content : (line : List ℕ) (n : ℕ) (j k : Kind) → j ≡ k → (x : Value j) (y : Value k) → HoldsValue (segment j n line) x → HoldsValue (segment k n line) y → content j x ≡ content k y
same_content line n j k e =
    subst (λ k. (x : Value j) (y : Value k) → HoldsValue (segment j n line) x → HoldsValue (segment k n line) y → content j x ≡ content k y) e
    (λ x y s t. ap (content j) (value_from_columns j x y s.fit t.fit (sym s.written ∙ t.written)))

same_contents : (line : List ℕ) (n : ℕ) (cs ds : List Content) → kinds cs ≡ kinds ds → HoldsContents line n cs → HoldsContents line n ds → cs ≡ ds
same_contents line n [] [] e s t = refl
same_contents line n [] (d ∷ ds) e s t = absurd (omega (arith, ap length e))
same_contents line n (c ∷ cs) [] e s t = absurd (omega (arith, ap length e))
same_contents line n (c ∷ cs) (d ∷ ds) e (next s more) (next t rest) =
    let kind : c.kind ≡ d.kind = head-eq_of_cons-eq e in
    let first : c ≡ d = same_content line n c.kind d.kind kind c.value d.value s t in
    let others : HoldsContents line (n + width c.kind) ds = rw kind rest in
    ap (λ x. x ∷ cs) first ∙ ap (λ xs. d ∷ xs) (same_contents line (n + width c.kind) cs ds (tail-eq_of_cons-eq e) more others)

-- the tag
four : (t : Tag) → length (tag_bytes t) ≡ 4
four Open = refl
four Fact = refl
four Enrl = refl
four Gate = refl
four Intv = refl
four Degd = refl
four Read = refl

tag_at : ℕ → Tag
tag_at b = cond (eqb b 79) Open (cond (eqb b 70) Fact (cond (eqb b 69) Enrl (cond (eqb b 71) Gate (cond (eqb b 73) Intv (cond (eqb b 68) Degd Read)))))

tag_back : (t : Tag) → tag_at (get_or (tag_bytes t) 0 0) ≡ t
unfolding tag_at
tag_back Open = refl
tag_back Fact = refl
tag_back Enrl = refl
tag_back Gate = refl
tag_back Intv = refl
tag_back Degd = refl
tag_back Read = refl

same_tag : (s t : Tag) → tag_bytes s ≡ tag_bytes t → s ≡ t
same_tag s t e = sym (tag_back s) ∙ ap (λ bs. tag_at (get_or bs 0 0)) e ∙ tag_back t

-- what each record writes
kinds_of_contents : (r : Record) → kinds (contents r) ≡ kinds_of (tag_of r)
kinds_of_contents (of.Opening r) = refl
kinds_of_contents (of.Factors r) = refl
kinds_of_contents (of.Enrolment r) = refl
kinds_of_contents (of.GateDay r) = refl
kinds_of_contents (of.IntervalEnergy r) = refl
kinds_of_contents (of.DegreeDays r) = refl
kinds_of_contents (of.Reading r) = refl

wide : (r : Record) → widths (contents r) ≡ 41
wide (of.Opening r) = refl
wide (of.Factors r) = refl
wide (of.Enrolment r) = refl
wide (of.GateDay r) = refl
wide (of.IntervalEnergy r) = refl
wide (of.DegreeDays r) = refl
wide (of.Reading r) = refl

length_joined : (cs : List Content) → T (all_fit cs) → length (flat_map content_columns cs) ≡ widths cs
length_joined [] h = refl
length_joined (c ∷ cs) h =
    let p = parts_fit c cs h in
    let one = length_columns c.kind c.value p.0 in
    let more = length_joined cs p.1 in
    rw (length-append, one, more)

-- a record from its tag and its contents
natural_of : (k : Kind) → Value k → ℕ
natural_of number n = n
natural_of date n = n
natural_of _ _ = 0

integer_of : (k : Kind) → Value k → ℤ
integer_of signed z = z
integer_of _ _ = pos 0

type_of : (k : Kind) → Value k → ReadingType
type_of reading_type t = t
type_of _ _ = Actual

rebuilt : Tag → (ℕ → ℕ) → (ℕ → ℤ) → (ℕ → ReadingType) → Record
rebuilt Open n z t = of.Opening (record { first_date = n 0; days = n 1; unaccounted = n 2 })
rebuilt Fact n z t = of.Factors (record { point = n 0; base_load = n 1; sensitivity = n 2 })
rebuilt Enrl n z t = of.Enrolment (record { point = n 0; retailer = n 1; start = n 2 })
rebuilt Gate n z t = of.GateDay (record { date = n 0; energy_in = n 1; energy_out = n 2 })
rebuilt Intv n z t = of.IntervalEnergy (record { date = n 0; meter = n 1; energy = n 2 })
rebuilt Degd n z t = of.DegreeDays (record { date = n 0; count = n 1 })
rebuilt Read n z t = of.Reading (record { point = n 0; start = n 1; end = n 2; energy = z 3; reading_type = t 4 })

abbrev at : List Content → ℕ → Content
at cs i = get_or cs i blank_field

from_contents : Tag → List Content → Record
from_contents tag cs = rebuilt tag (λ i. natural_of (at cs i).kind (at cs i).value) (λ i. integer_of (at cs i).kind (at cs i).value) (λ i. type_of (at cs i).kind (at cs i).value)

record_back : (r : Record) → from_contents (tag_of r) (contents r) ≡ r
unfolding from_contents rebuilt natural_of integer_of type_of
record_back (of.Opening r) = refl
record_back (of.Factors r) = refl
record_back (of.Enrolment r) = refl
record_back (of.GateDay r) = refl
record_back (of.IntervalEnergy r) = refl
record_back (of.DegreeDays r) = refl
record_back (of.Reading r) = refl

-- the parts of what is written
module _ (r : Record) (h : T (record_fits r)) where
  tagged : take 4 (record_bytes r) ≡ tag_bytes (tag_of r)
  tagged = take_at (tag_bytes (tag_of r)) (flat_map content_columns (contents r) ++ (10 ∷ [])) 4 (four (tag_of r))

  standing : HoldsContents (record_bytes r) 4 (contents r)
  standing = stands (record_bytes r) 4 (contents r) (10 ∷ []) h (drop_at (tag_bytes (tag_of r)) (flat_map content_columns (contents r) ++ (10 ∷ [])) 4 (four (tag_of r)))

  all_but_feed : length (tag_bytes (tag_of r) ++ flat_map content_columns (contents r)) ≡ 45
  all_but_feed =
      let tag = four (tag_of r) in
      let rest = length_joined (contents r) h in
      let columns = wide r in
      rw (length-append, tag, rest, columns)

  pub written_whole : is_line (record_bytes r) ≡ true
  written_whole =
      let front : List ℕ = tag_bytes (tag_of r) ++ flat_map content_columns (contents r) in
      let split : front ++ (10 ∷ []) ≡ record_bytes r = append_assoc (tag_bytes (tag_of r)) (flat_map content_columns (contents r)) (10 ∷ []) in
      let long : length (record_bytes r) ≡ 46 = ap length (sym split) ∙ length_push front 10 ∙ ap (λ n. n + 1) all_but_feed in
      let last : length (record_bytes r) - 1 ≡ 45 = omega arith in
      let feed : get_or (record_bytes r) 45 0 ≡ 10 = ap (λ l. get_or l 45 0) (sym split) ∙ get_or_push front 10 0 45 all_but_feed in
      and_from (eqb (length (record_bytes r)) 46) (ends_with_line_feed (record_bytes r)) (eq-eqb _ _ long) (eq-eqb _ _ (rw last feed))

-- so nothing in it is at fault
pub written_sound : (r : Record) → T (record_fits r) → (c : ℕ) → IsAtFault (record_bytes r) c → ⊥
written_sound r h c (wrong_length w e) = both_ways (is_line (record_bytes r)) w (written_whole r h)
written_sound r h c (unknown_tag w unknown e) = unknown (tag_of r) (tagged r h)
written_sound r h c (wrong_part t w tag l) =
    let same : t ≡ tag_of r = same_tag t (tag_of r) (sym tag ∙ tagged r h) in
    let layouts : kinds_of t ≡ kinds (contents r) = ap kinds_of same ∙ sym (kinds_of_contents r) in
    no_fault (record_bytes r) 4 (contents r) c (standing r h) (subst (λ ks. IsLeftmostFault (segments ks 4 (record_bytes r)) c) layouts l)

-- and two records do not write the same
pub same_record : (r s : Record) → T (record_fits r) → T (record_fits s) → record_bytes r ≡ record_bytes s → r ≡ s
same_record r s h k e =
    let tag : tag_of r ≡ tag_of s = same_tag (tag_of r) (tag_of s) (sym (tagged r h) ∙ ap (take 4) e ∙ tagged s k) in
    let layouts : kinds (contents r) ≡ kinds (contents s) = kinds_of_contents r ∙ ap kinds_of tag ∙ sym (kinds_of_contents s) in
    let both = same_contents (record_bytes s) 4 (contents r) (contents s) layouts (rw (← e) (standing r h)) (standing s k) in
    sym (record_back r) ∙ rw (tag, both) (record_back s)

-- what is written is read back
pub reads_back : (bytes : List ℕ) (r : Result Record Fault) → ReadsLine bytes r → (x : Record) → T (record_fits x) → bytes ≡ record_bytes x → r ≡ Ok x
reads_back bytes (Ok y) p x h e = ap Ok (same_record y x p.0 h (sym p.1 ∙ e))
reads_back bytes (Err f) p x h e = absurd (written_sound x h f.column (subst (λ b. IsAtFault b f.column) e p.1))

-- a line is at fault at one column
leftmost_once : (ps : List Segment) (c d : ℕ) → IsLeftmostFault ps c → IsLeftmostFault ps d → c ≡ d
leftmost_once [] c d l m = elim l [ ]
leftmost_once (p ∷ ps) c d (here e bad) (here f worse) = e ∙ sym f
leftmost_once (p ∷ ps) c d (here e bad) (further good m) = absurd (bad good)
leftmost_once (p ∷ ps) c d (further good l) (here f bad) = absurd (bad good)
leftmost_once (p ∷ ps) c d (further good l) (further fine m) = leftmost_once ps c d l m

fault_once : (line : List ℕ) (c d : ℕ) → IsAtFault line c → IsAtFault line d → c ≡ d
fault_once line c d (wrong_length w e) (wrong_length v f) = e ∙ sym f
fault_once line c d (wrong_length w e) (unknown_tag v n f) = absurd (both_ways (is_line line) w v)
fault_once line c d (wrong_length w e) (wrong_part t v tag l) = absurd (both_ways (is_line line) w v)
fault_once line c d (unknown_tag w n e) (wrong_length v f) = absurd (both_ways (is_line line) v w)
fault_once line c d (unknown_tag w n e) (unknown_tag v m f) = e ∙ sym f
fault_once line c d (unknown_tag w n e) (wrong_part t v tag l) = absurd (n t tag)
fault_once line c d (wrong_part t w tag l) (wrong_length v f) = absurd (both_ways (is_line line) v w)
fault_once line c d (wrong_part t w tag l) (unknown_tag v n f) = absurd (n t tag)
fault_once line c d (wrong_part t w tag l) (wrong_part u v gat m) =
    leftmost_once (segments (kinds_of u) 4 line) c d (subst (λ s. IsLeftmostFault (segments (kinds_of s) 4 line) c) (same_tag t u (sym tag ∙ gat)) l) m

pub one_column : (bytes : List ℕ) (r : Result Record Fault) → ReadsLine bytes r → IfErr r (λ f. (c : ℕ) → IsAtFault bytes c → c ≡ f.column)
one_column bytes (Ok x) p = tt
one_column bytes (Err f) p = λ c a. fault_once bytes c f.column a p.1

-- how a line comes to be read: by what its record was read as
line_same : (t : Tag) (line : List ℕ) (r : Result Record Fault) → is_line line ≡ true → take 4 line ≡ tag_bytes t → ReadsContents t line r → ReadsLine line r
line_same t line (Ok x) w tag p =
    let joined = assembled t line w tag p.1 (wide x) in
    (joined.0, joined.1 ∙ ap (λ u. line_bytes u (contents x)) (sym p.0))
line_same t line (Err f) w tag p = (p.refusal, wrong_part t w tag p.column)

pub line_read : (bytes : List ℕ) (t : Tag) (line : List ℕ) (r : Result Record Fault) → line ≡ bytes → is_line line ≡ true → take 4 line ≡ tag_bytes t → ReadsContents t line r → ReadsLine bytes r
line_read bytes t line r same w tag p = subst (λ b. ReadsLine b r) same (line_same t line r w tag p)
