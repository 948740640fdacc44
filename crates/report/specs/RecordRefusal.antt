-- What a record is refused by, where it is, and what the intake's history is after it.
use Rattle.std.specs.Prelude.{◌≡◌, ℕ, Bool, true, false, not, ◌&&◌, ◌||◌, if◌then◌else◌, Some, None, Ok, Err, Option, Result, ◌==◌}
use Rattle.std.specs.Option.{option_map, option_or}
use Rattle.calendar.specs.Digits.{is_date}
use Rattle.line_format.specs.declared.fault.Fault.{Fault}
use Rattle.line_format.specs.declared.record.Record.{Record}
use Rattle.line_format.specs.declared.record.Record.TheVariants as of
use Rattle.rules.specs.Calls.{refusal, is_in_book, named_date}
use Rattle.rules.specs.History.{History, Setting}
use Rattle.rules.specs.declared.call.Call.{Call}
use Rattle.terms.specs.Refusal.{number_of, date_named}
use Rattle.report.specs.IntakeHistory.{IntakeHistory, call_of_record, history_with_record, opened, unopened}
use Rattle.line_format.specs.Limits.{verdict, largest_book}
use Rattle.terms.specs.RefusalNumbers.{covered_day_without_load, end_not_allowed, negative_energy, out_of_turn, outside_book, start_is_no_mark}

-- a refusal with its place: its number, the first column of the leftmost field at fault, and the
-- date of the day that it names, if it names one
pub record PlacedRefusal : Type 0 where
  pub number : ℕ
  pub column : ℕ
  pub date : Option ℕ

-- a refusal as the rules tell it: its number, the column at fault and the date that it names
abbrev pub placed_refusal : {X : Type 0} → Result X Fault → Option PlacedRefusal
placed_refusal (Ok x) = None
placed_refusal (Err f) =
    Some (record { number = number_of f.refusal; column = f.column; date = date_named f.refusal })

-- factors and the opening come before there is a book, all else after it
abbrev pub is_before_book : Record → Bool
is_before_book (of.Opening r) = true
is_before_book (of.Factors r) = true
is_before_book x = false

-- a record comes in its turn
abbrev pub is_in_turn : IntakeHistory → Record → Bool
is_in_turn (unopened fs) x = is_before_book x
is_in_turn (opened s h) x = not (is_before_book x)

-- a record out of its turn, at the tag
abbrev pub turn_refusal : PlacedRefusal
turn_refusal = record { number = out_of_turn; column = 1; date = None }

-- its numbers are within the limits of the largest book, and its dates exist
abbrev pub IsWithinLimits : Record → Type 0
IsWithinLimits x = verdict largest_book x ≡ None

-- the refusal of a record whose numbers are beyond their limits, or whose dates do not exist
abbrev pub refusal_by_limits : Record → Option PlacedRefusal
refusal_by_limits x =
    option_map (λ at. record { number = at.0; column = at.1; date = None }) (verdict largest_book x)

-- a date is a day of the book
abbrev pub is_book_date : Setting → ℕ → Bool
is_book_date s date = is_date date && is_in_book s 0 date

-- the first column of the leftmost date outside a book
abbrev pub outside_column : Setting → Record → ℕ
outside_column s (of.Enrolment r) = 25
outside_column s (of.Reading r) = if is_book_date s r.start then 25 else 15
outside_column s x = 5

-- the first column of the field at fault where a book refuses a record: for 5 the date outside it,
-- for 6 the energy, for 9 and 11 the start, for 10 the end, else the point
abbrev pub book_column : Setting → Record → ℕ → ℕ
book_column s x n =
    if n == outside_book then outside_column s x
    else (if n == negative_energy then 35
    else (if n == start_is_no_mark || n == covered_day_without_load then 15
    else (if n == end_not_allowed then 25 else 5)))

-- what a book of a history refuses a record's call by
abbrev pub book_refusal : Setting → History → Record → Option Call → Option PlacedRefusal
book_refusal s h x None = None
book_refusal s h x (Some c) =
    option_map (λ n. record { number = n; column = book_column s x n; date = named_date s h c n })
    (refusal s h c)

-- the same of an intake's history; before there is a book it refuses nothing
abbrev pub refusal_by_book : IntakeHistory → Record → Option PlacedRefusal
refusal_by_book (unopened fs) x = None
refusal_by_book (opened s h) x = book_refusal s h x (call_of_record x)

-- the refusal of a record: out of turn, else beyond its limits or with a date that does not exist,
-- else the book's; none where it is accepted
abbrev pub record_refusal : IntakeHistory → Record → Option PlacedRefusal
record_refusal t x =
    if is_in_turn t x then option_or (refusal_by_limits x) (refusal_by_book t x) else Some turn_refusal

-- what is refused leaves the history as it is
abbrev pub history_unless_refused : Option PlacedRefusal → IntakeHistory → IntakeHistory → IntakeHistory
history_unless_refused None t with_it = with_it
history_unless_refused (Some r) t with_it = t

-- the history after a record
abbrev pub history_after_record : IntakeHistory → Record → IntakeHistory
history_after_record t x = history_unless_refused (record_refusal t x) t (history_with_record t x)
