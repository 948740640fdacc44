-- The readings that a history holds, and the marks and joined days that they make.
use Rattle.std.specs.Prelude.{◌≡◌, ℕ, Bool, true, false, not, ◌&&◌, ◌||◌, ◌⊎◌, List, [], ◌∷◌, Some, None, filter, Option, ◌==◌, nat_eq, nat_lt}
use Rattle.std.specs.List.{AllByRecursion, list_any}
use Rattle.rules.specs.History.{History, covers, enrolment_of}
use Rattle.rules.specs.declared.entry.Enrolment.{Enrolment}
use Rattle.rules.specs.declared.entry.Entry.{Entry}
use Rattle.rules.specs.declared.entry.Entry.TheVariants.{Enrolled, ReadingTaken}
use Rattle.rules.specs.declared.entry.Reading.{Reading}

-- the accepted readings, the newest first
abbrev pub accepted_readings : History → List Reading
accepted_readings [] = []
accepted_readings (ReadingTaken r ∷ h) = r ∷ accepted_readings h
accepted_readings (e ∷ h) = accepted_readings h

-- a new reading covers a day of an old one of its point, and so replaces it
abbrev pub replaces : (new old : Reading) → Bool
replaces new old = new.point == old.point && (nat_lt new.start old.end && nat_lt old.start new.end)

-- of some readings, the newest first, those that no newer one replaces
abbrev pub unreplaced_readings : List Reading → List Reading
unreplaced_readings [] = []
unreplaced_readings (r ∷ rs) = r ∷ filter (λ old. not (replaces r old)) (unreplaced_readings rs)

-- the held readings: each accepted one until a later one replaces it
abbrev pub held_readings : History → List Reading
held_readings h = unreplaced_readings (accepted_readings h)

-- the held readings of a point
abbrev pub held_readings_of : History → (point : ℕ) → List Reading
held_readings_of h p = filter (λ r. nat_eq r.point p) (held_readings h)

-- a reading is one of a list
abbrev pub IsOneOf : Reading → List Reading → Type 0
IsOneOf r [] = ⊥
IsOneOf r (o ∷ os) = (o ≡ r) ⊎ IsOneOf r os

-- a history holds a reading
abbrev pub Holds : History → Reading → Type 0
Holds h r = IsOneOf r (held_readings h)

-- no two readings of a list share a day of a point
abbrev pub AreApart : List Reading → Type 0
AreApart [] = Unit {0}
AreApart (r ∷ rs) = AllByRecursion (λ o. replaces r o ≡ false) rs × AreApart rs

-- Marks and joined days.

-- an enrolment starts on a day
abbrev pub starts_on : Option Enrolment → (day : ℕ) → Bool
starts_on None d = false
starts_on (Some e) d = e.start == d

-- a day is a mark of a point: its start day, or the end of a held reading of it
abbrev pub is_mark : History → (point day : ℕ) → Bool
is_mark h p d = starts_on (enrolment_of h p) d || list_any (λ r. (r.point == p) && r.end == d) (held_readings h)

-- two days are joined: one held reading covers both
abbrev pub are_joined : History → (day other : ℕ) → Bool
are_joined h d e = list_any (λ r. covers r r.point d && covers r r.point e) (held_readings h)

-- Kinds of entries.

-- an entry is a reading
abbrev pub is_reading : Entry → Bool
is_reading (ReadingTaken r) = true
is_reading e = false

-- an entry is a reading of a point
abbrev pub is_reading_of : (point : ℕ) → Entry → Bool
is_reading_of p (ReadingTaken r) = r.point == p
is_reading_of p e = false

-- an entry is the enrolment of a point
abbrev pub is_enrolment_of : (point : ℕ) → Entry → Bool
is_enrolment_of p (Enrolled point enrolment) = point == p
is_enrolment_of p e = false
