-- What a record writes: its tag, its fields and its letter, and a line feed.
use Rattle.std.specs.Prelude.{◌≡◌, ℕ, ◌<◌, ◌≤◌, Bool, true, ◌&&◌, if◌then◌else◌, T, List, [], ◌∷◌, ◌++◌, length, drop, Some, None, Option, Ok, Err, Result}
use Rattle.std.specs.List.{flat_map}
use Rattle.terms.specs.Answers.{Answers}
use Rattle.terms.specs.Refusal.{number_of}
use Rattle.terms.specs.declared.reading_type.ReadingType.{ReadingType}
use Rattle.terms.specs.declared.refusal.Refusal.{Refusal}
use Rattle.line_format.specs.Kind.{Kind, Value, fits, columns, number, signed, date, blank, reading_type, no_letter}
use Rattle.line_format.specs.Tag.{tag_bytes}
use Rattle.line_format.specs.declared.record.DegreeDays.{DegreeDays}
use Rattle.line_format.specs.declared.record.Enrolment.{Enrolment}
use Rattle.line_format.specs.declared.record.Factors.{Factors}
use Rattle.line_format.specs.declared.record.GateDay.{GateDay}
use Rattle.line_format.specs.declared.record.IntervalEnergy.{IntervalEnergy}
use Rattle.line_format.specs.declared.record.Opening.{Opening}
use Rattle.line_format.specs.declared.record.Reading.{Reading}
use Rattle.line_format.specs.declared.record.Record.{Record}
use Rattle.line_format.specs.declared.record.Record.TheVariants as of
use Rattle.line_format.specs.declared.tag.Tag.{Tag}
use Rattle.line_format.specs.declared.tag.Tag.TheVariants.{Open, Fact, Enrl, Gate, Intv, Degd, Read}
use Rattle.terms.specs.RefusalNumbers.{beyond_limits, list_too_short}

-- what stands in a field or in the letter's column: a value and its kind
pub record Content : Type 0 where
  pub kind : Kind
  pub value : Value kind

abbrev pub content : (k : Kind) → Value k → Content
content k x = record { kind = k; value = x }

-- an unused field, and no letter
abbrev pub blank_field : Content
blank_field = content blank tt

abbrev pub blank_letter : Content
blank_letter = content no_letter tt

-- a letter, or none
abbrev pub letter_content : Option ReadingType → Content
letter_content (Some t) = content reading_type t
letter_content None = blank_letter

-- what each record puts into its four fields and the letter's column
abbrev pub opening_contents : Opening → List Content
opening_contents r =
    content date r.first_date ∷ content number r.days ∷ content number r.unaccounted
    ∷ blank_field ∷ blank_letter ∷ []

abbrev pub factors_contents : Factors → List Content
factors_contents r =
    content number r.point ∷ content number r.base_load ∷ content number r.sensitivity
    ∷ blank_field ∷ blank_letter ∷ []

abbrev pub enrolment_contents : Enrolment → List Content
enrolment_contents r =
    content number r.point ∷ content number r.retailer ∷ content date r.start
    ∷ blank_field ∷ blank_letter ∷ []

abbrev pub gate_contents : GateDay → List Content
gate_contents r =
    content date r.date ∷ content number r.energy_in ∷ content number r.energy_out
    ∷ blank_field ∷ blank_letter ∷ []

abbrev pub interval_contents : IntervalEnergy → List Content
interval_contents r =
    content date r.date ∷ content number r.meter ∷ content number r.energy
    ∷ blank_field ∷ blank_letter ∷ []

abbrev pub degree_contents : DegreeDays → List Content
degree_contents r =
    content date r.date ∷ content number r.count ∷ blank_field ∷ blank_field ∷ blank_letter ∷ []

abbrev pub reading_contents : Reading → List Content
reading_contents r =
    content number r.point ∷ content date r.start ∷ content date r.end ∷ content signed r.energy
    ∷ content reading_type r.reading_type ∷ []

abbrev pub contents : Record → List Content
contents (of.Opening r) = opening_contents r
contents (of.Factors r) = factors_contents r
contents (of.Enrolment r) = enrolment_contents r
contents (of.GateDay r) = gate_contents r
contents (of.IntervalEnergy r) = interval_contents r
contents (of.DegreeDays r) = degree_contents r
contents (of.Reading r) = reading_contents r

-- the tag of each record
abbrev pub tag_of : Record → Tag
tag_of (of.Opening r) = Open
tag_of (of.Factors r) = Fact
tag_of (of.Enrolment r) = Enrl
tag_of (of.GateDay r) = Gate
tag_of (of.IntervalEnergy r) = Intv
tag_of (of.DegreeDays r) = Degd
tag_of (of.Reading r) = Read

-- each value fits its columns
abbrev pub all_fit : List Content → Bool
all_fit [] = true
all_fit (c ∷ cs) = fits c.kind c.value && all_fit cs

-- the bytes of a line: its tag, its contents and a line feed
abbrev pub line_bytes : Tag → List Content → List ℕ
line_bytes t cs = tag_bytes t ++ (flat_map (λ c. columns c.kind c.value) cs ++ (10 ∷ []))

-- the record can be written
abbrev pub record_fits : Record → Bool
record_fits r = all_fit (contents r)

-- the bytes of its line
abbrev pub record_bytes : Record → List ℕ
record_bytes r = line_bytes (tag_of r) (contents r)

-- a content is written as its columns, or its value does not fit them
abbrev pub WritesField : Content → Result (List ℕ) Refusal → Type 0
WritesField c r = Answers r (fits c.kind c.value) (columns c.kind c.value) beyond_limits

-- the same of contents, one by one
abbrev pub WritesFields : List Content → List (Result (List ℕ) Refusal) → Type 0
WritesFields [] [] = Unit {0}
WritesFields [] (r ∷ rs) = ⊥
WritesFields (c ∷ cs) [] = ⊥
WritesFields (c ∷ cs) (r ∷ rs) = WritesField c r × WritesFields cs rs

-- the line of a tag and contents is given, or one of their values does not fit
abbrev pub WritesLine : Tag → List Content → Result (List ℕ) Refusal → Type 0
WritesLine t cs r = Answers r (all_fit cs) (line_bytes t cs) beyond_limits

-- the buffer holds old and then new: the record and the bytes beyond, or what it held.
-- A record that does not fit its columns is refused as beyond limits, any other only where 46 bytes are wanting
abbrev pub WritesRecord : Record → List ℕ → List ℕ → Result (Unit {0}) Refusal → Type 0
WritesRecord x old new (Ok _) =
    T (record_fits x) × (46 ≤ length old) × (new ≡ record_bytes x ++ drop 46 old)
WritesRecord x old new (Err e) =
    (number_of e ≡ (if record_fits x then list_too_short else beyond_limits))
    × (T (record_fits x) → length old < 46) × (new ≡ old)
