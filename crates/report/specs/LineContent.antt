-- What a line says, and what is reported of it.
use Rattle.std.specs.Prelude.{◌≡◌, ℕ, ◌+◌, min, T, List, [], ◌∷◌, Some, None, Ok, Err, Option, Result, ◌==◌, find}
use Rattle.std.specs.Option.{option_map, unwrap_or}
use Rattle.line_format.specs.Fault.{last_line_number}
use Rattle.line_format.specs.declared.fault.LineFault.{LineFault}
use Rattle.line_format.specs.declared.record.Record.{Record}
use Rattle.terms.specs.Refusal.{number_of, layer_of, layer_number, date_named}
use Rattle.terms.specs.declared.refusal.Refusal.{Refusal}
use Rattle.terms.specs.declared.refusal.Refusal.TheVariants.{MalformedLine, OutOfTurn, BeyondLimits, NoSuchDate, OutsideBook, NegativeEnergy, PointNotEnrolled, PointEnrolledAlready, StartIsNoMark, EndNotAllowed, CoveredDayWithoutLoad, SoftOverFirm, ReadingPlacesFull, AskedDayWithoutLoad, ListTooShort}
use Rattle.report.specs.IntakeHistory.{IntakeHistory}
use Rattle.report.specs.RecordRefusal.{PlacedRefusal, history_after_record, record_refusal}
use Rattle.line_format.specs.Line.{IsAtFault}
use Rattle.line_format.specs.Record.{record_fits, record_bytes}
use Rattle.terms.specs.RefusalNumbers.{malformed_line}

-- a record, or nothing, since the line is malformed at a column
pub data LineContent : Type 0 where
  record_is : Record → LineContent
  malformed_at : ℕ → LineContent

-- bytes say the record that they are the writing of, or are malformed at the column at fault
abbrev pub HasContent : List ℕ → LineContent → Type 0
HasContent bytes (record_is x) = T (record_fits x) × (bytes ≡ record_bytes x)
HasContent bytes (malformed_at c) = IsAtFault bytes c

-- the refusal of what a line says: 1 where it is malformed, else that of its record
abbrev pub line_refusal : IntakeHistory → LineContent → Option PlacedRefusal
line_refusal t (record_is x) = record_refusal t x
line_refusal t (malformed_at c) = Some (record { number = malformed_line; column = c; date = None })

-- the history after it
abbrev pub history_after_line : IntakeHistory → LineContent → IntakeHistory
history_after_line t (record_is x) = history_after_record t x
history_after_line t (malformed_at c) = t

-- what is reported of a refused line: its number and the layer, and the refusal's number, column
-- and date, 0 where it names none
pub record ReportedRefusal : Type 0 where
  pub line : ℕ
  pub layer : ℕ
  pub number : ℕ
  pub column : ℕ
  pub date : ℕ

-- a refusal of each number, in their order
abbrev pub refusals_by_number : List Refusal
refusals_by_number =
    MalformedLine ∷ OutOfTurn ∷ BeyondLimits ∷ NoSuchDate ∷ OutsideBook ∷ NegativeEnergy
    ∷ PointNotEnrolled ∷ PointEnrolledAlready ∷ StartIsNoMark ∷ EndNotAllowed
    ∷ CoveredDayWithoutLoad 0 ∷ SoftOverFirm ∷ ReadingPlacesFull ∷ AskedDayWithoutLoad 0
    ∷ ListTooShort ∷ []

-- the number of the layer that meets the refusals of a number
abbrev pub layer_by_number : ℕ → ℕ
layer_by_number n =
    unwrap_or
    (option_map (λ e. layer_number (layer_of e)) (find (λ e. number_of e == n) refusals_by_number))
    0

-- the line after k others, refused
abbrev pub reported_refusal : ℕ → PlacedRefusal → ReportedRefusal
reported_refusal k r = record {
  line = min (k + 1) last_line_number;
  layer = layer_by_number r.number;
  number = r.number;
  column = r.column;
  date = unwrap_or r.date 0;
}

-- a line's answer, as it is reported
abbrev pub reported_answer : Result (Unit {0}) LineFault → Option ReportedRefusal
reported_answer (Ok x) = None
reported_answer (Err f) = Some (record {
  line = f.line;
  layer = layer_number f.layer;
  number = number_of f.refusal;
  column = f.column;
  date = unwrap_or (date_named f.refusal) 0;
})
