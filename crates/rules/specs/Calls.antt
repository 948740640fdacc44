-- When a call is refused, by which number, and the entry that it makes when it is not.
use Rattle.std.specs.Prelude.{◌≡◌, ℕ, ◌+◌, ◌-◌, Bool, true, false, if◌then◌else◌, not, ◌&&◌, ◌||◌, List, [], ◌∷◌, ℤ, pos, negsuc, is_some, Some, None, count_by, Option, ◌==◌, nat_le, nat_lt}
use Rattle.std.specs.List.{list_any}
use Rattle.calendar.specs.Digits.{day_number_of, is_date, date_of_day_number}
use Rattle.estimators.specs.Limits.{greatest_count}
use Rattle.allocation.specs.Loads.{largest_gate, largest_interval, meters}
use Rattle.rules.specs.Figures.{load}
use Rattle.rules.specs.History.{History, Setting, covered_days, enrolment_of}
use Rattle.rules.specs.Readings.{held_readings, is_mark, replaces}
use Rattle.rules.specs.declared.call.Call.{Call}
use Rattle.rules.specs.declared.call.Call.TheVariants.{Enrol, EnterGate, EnterInterval, EnterDegreeDays, EnterReading, AskFigure, AskDay, AskRetailer}
use Rattle.rules.specs.declared.call.Delivery.{Delivery}
use Rattle.rules.specs.declared.entry.Enrolment.{Enrolment}
use Rattle.rules.specs.declared.entry.Entry.{Entry}
use Rattle.rules.specs.declared.entry.Entry.TheVariants.{Enrolled, GateEntered, IntervalEntered, DegreeDaysEntered, ReadingTaken}
use Rattle.rules.specs.declared.entry.Reading.{Reading}
use Rattle.terms.specs.Limits.{largest_energy, retailers}
use Rattle.terms.specs.ReadingType.{is_firm}
use Rattle.terms.specs.RefusalNumbers.{asked_day_without_load, beyond_limits, covered_day_without_load, end_not_allowed, negative_energy, no_such_date, outside_book, point_enrolled_already, point_not_enrolled, reading_places_full, soft_over_firm, start_is_no_mark}

-- Dates, days and energies of a call.

-- a number lies from low to high
abbrev pub is_between : (low high n : ℕ) → Bool
is_between low high n = nat_le low n && nat_le n high

-- a date is a day of the book, or at most so many days later
abbrev pub is_in_book : Setting → (later date : ℕ) → Bool
is_in_book s later date = nat_le s.first (day_number_of date) && nat_lt (day_number_of date) (s.first + s.days + later)

-- the day of the book at a date, from 0 for its first day
abbrev pub day_of_date : Setting → (date : ℕ) → ℕ
day_of_date s date = day_number_of date - s.first

-- the date of a day of the book, where there is such a day
abbrev pub date_of_day : Setting → (day : Option ℕ) → Option ℕ
date_of_day s None = None
date_of_day s (Some d) = Some (date_of_day_number (s.first + d))

-- an energy is negative
abbrev pub is_negative : ℤ → Bool
is_negative (pos e) = false
is_negative (negsuc e) = true

-- an energy that may be negative is at most the largest of a reading
abbrev pub is_energy_within_limit : ℤ → Bool
is_energy_within_limit (pos e) = nat_le e largest_energy
is_energy_within_limit (negsuc e) = true

-- the energy of a reading, which is not negative
abbrev pub energy_of : ℤ → ℕ
energy_of (pos e) = e
energy_of (negsuc e) = 0

-- the date that a call names; of a reading its start date
abbrev pub date_of : Call → ℕ
date_of (Enrol point retailer start) = start
date_of (EnterGate date energy_in energy_out) = date
date_of (EnterInterval date meter energy) = date
date_of (EnterDegreeDays date count) = date
date_of (EnterReading delivery) = delivery.start
date_of (AskFigure point date) = date
date_of (AskDay date) = date
date_of (AskRetailer retailer date) = date

-- Entries of calls.

-- a delivered reading, with days of the book in the place of its dates
abbrev pub reading_of : Setting → Delivery → Reading
reading_of s delivery = record {
  point = delivery.point;
  start = day_of_date s delivery.start;
  end = day_of_date s delivery.end;
  energy = energy_of delivery.energy;
  reading_type = delivery.reading_type;
}

-- the entry that a call makes; a question makes none
abbrev pub entry_of : Setting → Call → Option Entry
entry_of s (Enrol point retailer start) =
    Some (Enrolled point (record { retailer = retailer; start = day_of_date s start }))
entry_of s (EnterGate date energy_in energy_out) =
    Some (GateEntered (day_of_date s date) (record { energy_in = energy_in; energy_out = energy_out }))
entry_of s (EnterInterval date meter energy) = Some (IntervalEntered (day_of_date s date) meter energy)
entry_of s (EnterDegreeDays date count) = Some (DegreeDaysEntered (day_of_date s date) count)
entry_of s (EnterReading delivery) = Some (ReadingTaken (reading_of s delivery))
entry_of s c = None

-- an entry is a reading that passes a test
abbrev pub reading_passes : (Reading → Bool) → Option Entry → Bool
reading_passes test (Some (ReadingTaken r)) = test r
reading_passes test e = false

-- What refuses a call, by the refusal's number.

-- 3: a number of the call is beyond its limits
abbrev pub is_beyond_limits : Setting → Call → Bool
is_beyond_limits s (Enrol point retailer start) = not (is_between 1 s.points point && is_between 1 retailers retailer)
is_beyond_limits s (EnterGate date energy_in energy_out) =
    not (nat_le energy_in largest_gate && nat_le energy_out largest_gate)
is_beyond_limits s (EnterInterval date meter energy) = not (is_between 1 meters meter && nat_le energy largest_interval)
is_beyond_limits s (EnterDegreeDays date count) = not (nat_le count greatest_count)
is_beyond_limits s (EnterReading delivery) =
    not (is_between 1 s.points delivery.point && is_energy_within_limit delivery.energy)
is_beyond_limits s (AskFigure point date) = not (is_between 1 s.points point)
is_beyond_limits s (AskDay date) = false
is_beyond_limits s (AskRetailer retailer date) = not (is_between 1 retailers retailer)

-- 4: the call names a date that there is not
abbrev pub names_no_date : Call → Bool
names_no_date (EnterReading delivery) = not (is_date delivery.start && is_date delivery.end)
names_no_date c = not (is_date (date_of c))

-- 5: the call names a date outside the book; a reading may end on the day after its last
abbrev pub names_day_outside_book : Setting → Call → Bool
names_day_outside_book s (EnterReading delivery) = not (is_in_book s 0 delivery.start && is_in_book s 1 delivery.end)
names_day_outside_book s c = not (is_in_book s 0 (date_of c))

-- 6: the reading has a negative energy
abbrev pub has_negative_energy : Call → Bool
has_negative_energy (EnterReading delivery) = is_negative delivery.energy
has_negative_energy c = false

-- 7: the reading or the question names a point that is not enrolled
abbrev pub names_unenrolled_point : History → Call → Bool
names_unenrolled_point h (EnterReading delivery) = not (is_some (enrolment_of h delivery.point))
names_unenrolled_point h (AskFigure point date) = not (is_some (enrolment_of h point))
names_unenrolled_point h c = false

-- 8: the call enrols a point that is enrolled already
abbrev pub enrols_again : History → Call → Bool
enrols_again h (Enrol point retailer start) = is_some (enrolment_of h point)
enrols_again h c = false

-- 9: the reading starts at no mark of its point
abbrev pub starts_at_no_mark : History → Reading → Bool
starts_at_no_mark h r = not (is_mark h r.point r.start)

-- an enrolment starts before a day
abbrev pub has_begun_before : Option Enrolment → (day : ℕ) → Bool
has_begun_before None d = false
has_begun_before (Some e) d = nat_lt e.start d

-- a day is later than every mark of a point
abbrev pub is_after_all_marks : History → (point day : ℕ) → Bool
is_after_all_marks h p d =
    has_begun_before (enrolment_of h p) d && not (list_any (λ r. (r.point == p) && nat_le d r.end) (held_readings h))

-- 10: the reading does not end after its start, or neither at a mark of its point nor later than every mark
abbrev pub ends_where_not_allowed : History → Reading → Bool
ends_where_not_allowed h r =
    not (nat_lt r.start r.end && (is_mark h r.point r.end || is_after_all_marks h r.point r.end))

-- the first of some days that has no load
abbrev pub first_day_without_load : Setting → History → (days : List ℕ) → Option ℕ
first_day_without_load s h [] = None
first_day_without_load s h (d ∷ ds) = if is_some (load s h d) then first_day_without_load s h ds else Some d

-- 11: the reading covers a day that has no load
abbrev pub covers_day_without_load : Setting → History → Reading → Bool
covers_day_without_load s h r = is_some (first_day_without_load s h (covered_days r))

-- 12: the reading is soft and would replace a firm one
abbrev pub replaces_firm_though_soft : History → Reading → Bool
replaces_firm_though_soft h r =
    not (is_firm r.reading_type) && list_any (λ old. replaces r old && is_firm old.reading_type) (held_readings h)

-- 13: with the reading more would be held than there are places
abbrev pub finds_no_place : Setting → History → Reading → Bool
finds_no_place s h r = nat_lt s.places (count_by (λ old. not (replaces r old)) (held_readings h) + 1)

-- 14: the question asks for a day that has no load
abbrev pub asks_day_without_load : Setting → History → Call → Bool
asks_day_without_load s h (AskDay date) = not (is_some (load s h (day_of_date s date)))
asks_day_without_load s h c = false

-- The refusal of a call.

-- a call deserves the refusal of a number; 1, 2 and 15 come from lines and lists, never from a call on an open book
pub record Condition : Type 0 where
  pub number : ℕ
  pub holds : Bool

-- the conditions of a call's refusals, in the order of their numbers
abbrev pub conditions : Setting → History → Call → List Condition
conditions s h c =
    record { number = beyond_limits; holds = is_beyond_limits s c }
    ∷ record { number = no_such_date; holds = names_no_date c }
    ∷ record { number = outside_book; holds = names_day_outside_book s c }
    ∷ record { number = negative_energy; holds = has_negative_energy c }
    ∷ record { number = point_not_enrolled; holds = names_unenrolled_point h c }
    ∷ record { number = point_enrolled_already; holds = enrols_again h c }
    ∷ record { number = start_is_no_mark; holds = reading_passes (starts_at_no_mark h) (entry_of s c) }
    ∷ record { number = end_not_allowed; holds = reading_passes (ends_where_not_allowed h) (entry_of s c) }
    ∷ record { number = covered_day_without_load; holds = reading_passes (covers_day_without_load s h) (entry_of s c) }
    ∷ record { number = soft_over_firm; holds = reading_passes (replaces_firm_though_soft h) (entry_of s c) }
    ∷ record { number = reading_places_full; holds = reading_passes (finds_no_place s h) (entry_of s c) }
    ∷ record { number = asked_day_without_load; holds = asks_day_without_load s h c } ∷ []

-- the number of the first condition that holds
abbrev pub first_refusal : List Condition → Option ℕ
first_refusal [] = None
first_refusal (c ∷ cs) = if c.holds then Some c.number else first_refusal cs

-- the refusal of a call, by its number; none where it is accepted
abbrev pub refusal : Setting → History → Call → Option ℕ
refusal s h c = first_refusal (conditions s h c)

-- the date that a call refused by number n names: of the first covered day, or of the day asked for, that has no load
abbrev pub named_date : Setting → History → Call → (n : ℕ) → Option ℕ
named_date s h (EnterReading delivery) n =
    if n == covered_day_without_load
    then date_of_day s (first_day_without_load s h (covered_days (reading_of s delivery)))
    else None
named_date s h (AskDay date) n = if n == asked_day_without_load then Some date else None
named_date s h c n = None

-- Lawful histories.

-- every entry of a history is that of a call that was accepted after the entries before it
abbrev pub IsLawful : Setting → History → Type 0
IsLawful s [] = Unit {0}
IsLawful s (e ∷ h) = IsLawful s h × ((c : Call) × (refusal s h c ≡ None) × (entry_of s c ≡ Some e))
