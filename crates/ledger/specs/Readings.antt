-- What a ledger's tables say of marks, replaced readings and room, and the two steps in which a
-- reading is judged.
use Rattle.std.specs.Prelude.{◌≡◌, ℕ, ◌<◌, Bool, if◌then◌else◌, not, ◌&&◌, ◌||◌, [], ◌∷◌, Some, None, Ok, Err, vec_items, vec_len, count_by, Option, Result, ◌==◌, nat_le, nat_lt}
use Rattle.rules.specs.Calls.{entry_of, is_beyond_limits, date_of_day, covers_day_without_load, ends_where_not_allowed, first_refusal, first_day_without_load, has_negative_energy, names_no_date, names_unenrolled_point, names_day_outside_book, finds_no_place, replaces_firm_though_soft, starts_at_no_mark, has_begun_before}
use Rattle.rules.specs.History.{History, Setting, covered_days}
use Rattle.rules.specs.Readings.{replaces, starts_on}
use Rattle.rules.specs.declared.call.Call.{Call}
use Rattle.rules.specs.declared.call.Call.TheVariants.{EnterReading}
use Rattle.rules.specs.declared.call.Delivery.{Delivery}
use Rattle.rules.specs.declared.entry.Entry.TheVariants.{ReadingTaken}
use Rattle.rules.specs.declared.entry.Reading.{Reading}
use Rattle.terms.specs.Refusal.{number_of, date_named}
use Rattle.terms.specs.declared.refusal.Refusal.{Refusal}
use Rattle.ledger.specs.Ledger.{EachLedgerHistory, enrolment_at}
use Rattle.ledger.specs.Places.{holds_passing}
use Rattle.ledger.specs.declared.ledger.Ledger.{Ledger}
use Rattle.terms.specs.ReadingType.{is_firm}
use Rattle.terms.specs.RefusalNumbers.{beyond_limits, covered_day_without_load, end_not_allowed, negative_energy, no_such_date, outside_book, point_not_enrolled, reading_places_full, soft_over_firm, start_is_no_mark}

-- some place of the ledger holds a reading that passes a test
abbrev pub some_at : Ledger → (Reading → Bool) → Bool
some_at l test = nat_lt 0 (count_by (holds_passing test) (vec_items l.places))

-- a day is the start day of a point, or the end of a reading of it
abbrev pub is_mark_at : Ledger → ℕ → ℕ → Bool
is_mark_at l point day =
    starts_on (enrolment_at l point) day || some_at l (λ r. (r.point == point) && r.end == day)

-- a point starts before a day, and no reading of it ends on that day or later
abbrev pub is_after_marks_at : Ledger → ℕ → ℕ → Bool
is_after_marks_at l point day =
    has_begun_before (enrolment_at l point) day
    && not (some_at l (λ r. (r.point == point) && nat_le day r.end))

-- a reading ends after its start, and at a mark or later than every mark
abbrev pub is_end_allowed_at : Ledger → Reading → Bool
is_end_allowed_at l r =
    nat_lt r.start r.end && (is_mark_at l r.point r.end || is_after_marks_at l r.point r.end)

-- a reading is soft and would replace a firm one
abbrev pub is_soft_over_firm_at : Ledger → Reading → Bool
is_soft_over_firm_at l r =
    not (is_firm r.reading_type) && some_at l (λ old. replaces r old && is_firm old.reading_type)

-- how many places hold readings that stay beside a new one
abbrev pub kept_count : Ledger → Reading → ℕ
kept_count l r = count_by (holds_passing (λ old. not (replaces r old))) (vec_items l.places)

-- the readings that stay beside a new one leave a place for it
abbrev pub HasRoomFor : Ledger → Reading → Type 0
HasRoomFor l r = kept_count l r < vec_len l.places

-- the readings that stay beside a new one leave no place for it
abbrev pub is_full_at : Ledger → Reading → Bool
is_full_at l r = nat_le (vec_len l.places) (kept_count l r)

-- A reading is judged in two steps: its numbers, dates and point first, then what it covers and
-- what is held.

-- the refusals of a call for its numbers, its dates and its point
abbrev pub numbers_refusal : Setting → History → Call → Option ℕ
numbers_refusal s h c =
    first_refusal
    (record { number = beyond_limits; holds = is_beyond_limits s c }
    ∷ record { number = no_such_date; holds = names_no_date c }
    ∷ record { number = outside_book; holds = names_day_outside_book s c }
    ∷ record { number = negative_energy; holds = has_negative_energy c }
    ∷ record { number = point_not_enrolled; holds = names_unenrolled_point h c } ∷ [])

abbrev pub IsNumbersJudgement : Setting → History → Call → Result Reading Refusal → Type 0
IsNumbersJudgement s h c (Ok r) =
    (numbers_refusal s h c ≡ None) × (entry_of s c ≡ Some (ReadingTaken r))
IsNumbersJudgement s h c (Err e) =
    (numbers_refusal s h c ≡ Some (number_of e)) × (date_named e ≡ None)

-- the refusals of a reading for its span, and for the readings that are held
unfoldable pub reading_span_refusal : Setting → History → Reading → Option ℕ
reading_span_refusal s h r =
    first_refusal
    (record { number = start_is_no_mark; holds = starts_at_no_mark h r }
    ∷ record { number = end_not_allowed; holds = ends_where_not_allowed h r }
    ∷ record { number = covered_day_without_load; holds = covers_day_without_load s h r }
    ∷ record { number = soft_over_firm; holds = replaces_firm_though_soft h r }
    ∷ record { number = reading_places_full; holds = finds_no_place s h r } ∷ [])

-- the day that such a refusal names
unfoldable pub span_named : Setting → History → Reading → ℕ → Option ℕ
span_named s h r n =
    if n == covered_day_without_load then date_of_day s (first_day_without_load s h (covered_days r)) else None

abbrev pub IsSpanJudgement : {X : Type 0} → Setting → History → Reading → Result X Refusal → Type 0
IsSpanJudgement s h r (Ok x) = reading_span_refusal s h r ≡ None
IsSpanJudgement s h r (Err e) =
    (reading_span_refusal s h r ≡ Some (number_of e)) × (date_named e ≡ span_named s h r (number_of e))

-- a ledger judges the numbers of a delivery so
abbrev pub JudgesNumbers : Ledger → Delivery → Result Reading Refusal → Type 0
JudgesNumbers l delivery r =
    EachLedgerHistory l (λ s h. IsNumbersJudgement s h (EnterReading delivery) r)

-- a ledger judges the span of a reading so
abbrev pub JudgesSpan : {X : Type 0} → Ledger → Reading → Result X Refusal → Type 0
JudgesSpan l reading r = EachLedgerHistory l (λ s h. IsSpanJudgement s h reading r)
