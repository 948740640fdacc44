-- What a book was opened with, and what it has accepted since.
-- Days are days of the book, from 0; a point is p and a day d.
use Rattle.std.specs.Prelude.{ℕ, ◌-◌, Bool, if◌then◌else◌, ◌&&◌, List, [], ◌∷◌, Some, None, Option, ◌==◌, nat_le, nat_lt}
use Rattle.std.specs.List.{range_with_len}
use Rattle.std.specs.Option.{option_or, unwrap_or}
use Rattle.estimators.specs.Meaning.{Meaning}
use Rattle.rules.specs.declared.entry.Enrolment.{Enrolment}
use Rattle.rules.specs.declared.entry.Entry.{Entry}
use Rattle.rules.specs.declared.entry.Entry.TheVariants.{Enrolled, GateEntered, IntervalEntered, DegreeDaysEntered, ReadingTaken}
use Rattle.rules.specs.declared.entry.GateDay.{GateDay}
use Rattle.rules.specs.declared.entry.Reading.{Reading}

-- the opening of a book, and what its estimator means at it
pub record Setting : Type 0 where
  -- the day number of the book's first day, its days and its points
  pub first : ℕ
  pub days : ℕ
  pub points : ℕ
  -- the share of unaccounted-for gas, in ten-thousandths
  pub unaccounted : ℕ
  -- the places of the reading list
  pub places : ℕ
  -- the estimator's figures at the opening, and under each degree-day count
  pub opening : Meaning
  pub weather : ℕ → Meaning

-- the accepted entries, the newest first; questions and refused calls leave no trace
abbrev pub History : Type 0
History = List Entry

-- what the newest entry that says something says
abbrev pub latest : {X : Type 0} → (Entry → Option X) → History → Option X
latest says [] = None
latest says (e ∷ h) = option_or (says e) (latest says h)

-- What one entry says.

-- the gate energies that an entry gives a day
abbrev pub gate_in : (day : ℕ) → Entry → Option GateDay
gate_in d (GateEntered day gate) = if day == d then Some gate else None
gate_in d e = None

-- the energy that an entry gives an interval meter on a day
abbrev pub interval_in : (meter day : ℕ) → Entry → Option ℕ
interval_in m d (IntervalEntered day meter energy) = if meter == m && day == d then Some energy else None
interval_in m d e = None

-- the degree-day count that an entry gives a day
abbrev pub count_in : (day : ℕ) → Entry → Option ℕ
count_in d (DegreeDaysEntered day count) = if day == d then Some count else None
count_in d e = None

-- the enrolment that an entry gives a point
abbrev pub enrolment_in : (point : ℕ) → Entry → Option Enrolment
enrolment_in p (Enrolled point enrolment) = if point == p then Some enrolment else None
enrolment_in p e = None

-- a reading covers a point's day: its start day and all days before its end
abbrev pub covers : Reading → (point day : ℕ) → Bool
covers r p d = r.point == p && (nat_le r.start d && nat_lt d r.end)

-- the days that a reading covers, in their order
abbrev pub covered_days : Reading → List ℕ
covered_days r = range_with_len r.start (r.end - r.start)

-- the reading that an entry gives a point's day
abbrev pub reading_in : (point day : ℕ) → Entry → Option Reading
reading_in p d (ReadingTaken r) = if covers r p d then Some r else None
reading_in p d e = None

-- What a history says.

-- the latest gate entry of a day
abbrev pub gate_of : History → (day : ℕ) → Option GateDay
gate_of h d = latest (gate_in d) h

-- the latest energy of an interval meter on a day; one never entered counts as 0
abbrev pub interval_energy : History → (meter day : ℕ) → ℕ
interval_energy h m d = unwrap_or (latest (interval_in m d) h) 0

-- the last degree-day count of a day
abbrev pub degree_day_count : History → (day : ℕ) → Option ℕ
degree_day_count h d = latest (count_in d) h

-- a point's enrolment
abbrev pub enrolment_of : History → (point : ℕ) → Option Enrolment
enrolment_of h p = latest (enrolment_in p) h

-- the last accepted reading that covers a point's day
abbrev pub covering_reading : History → (point day : ℕ) → Option Reading
covering_reading h p d = latest (reading_in p d) h
