-- What holds of the entries and the readings of every history that a book can have.
use Rattle.std.specs.Prelude.{◌≡◌, ℕ, ◌<◌, ◌≤◌, ◌≢◌, true, false, ◌∷◌, length, is_some, Some, None, count_by, Option}
use Rattle.std.specs.List.{find, list_any}
use Rattle.estimators.specs.Limits.{greatest_count}
use Rattle.rules.specs.Calls.{IsLawful, is_after_all_marks}
use Rattle.rules.specs.Figures.{is_active, load}
use Rattle.rules.specs.History.{History, Setting, covering_reading, covers, enrolment_of}
use Rattle.rules.specs.Readings.{AreApart, Holds, held_readings, held_readings_of, is_enrolment_of, is_mark, is_reading, is_reading_of, replaces}
use Rattle.rules.specs.declared.entry.Entry.{Entry}
use Rattle.rules.specs.declared.entry.Entry.TheVariants.{Enrolled, GateEntered, IntervalEntered, DegreeDaysEntered, ReadingTaken}
use Rattle.rules.specs.declared.entry.Reading.{Reading}
use Rattle.terms.specs.ReadingType.{is_firm}
use Rattle.terms.specs.Limits.{largest_energy}

-- an entry speaks of days and points of the book, and of a degree-day count that there can be
abbrev pub EntryLiesInBook : Setting → Option Entry → Type 0
EntryLiesInBook s None = Unit {0}
EntryLiesInBook s (Some (Enrolled p e)) = (1 ≤ p) × (p ≤ s.points) × (e.start < s.days)
EntryLiesInBook s (Some (GateEntered d gate)) = d < s.days
EntryLiesInBook s (Some (IntervalEntered d meter energy)) = d < s.days
EntryLiesInBook s (Some (DegreeDaysEntered d count)) = (d < s.days) × (count ≤ greatest_count)
EntryLiesInBook s (Some (ReadingTaken r)) = (1 ≤ r.point) × (r.point ≤ s.points)

-- every accepted entry speaks of the book
abbrev pub EntriesLieInTheBook : Type 0
EntriesLieInTheBook = (s : Setting) (h : History) (e : Entry) → IsLawful s (e ∷ h) → EntryLiesInBook s (Some e)

-- the last accepted reading that covers a point's day is the one held reading that covers it
pub record LastIsHeld (h : History) : Type 0 where
  pub is_held : (p d : ℕ) (r : Reading) → covering_reading h p d ≡ Some r → Holds h r × (covers r p d ≡ true)
  pub held_is_last : (p d : ℕ) (r : Reading) → Holds h r → covers r p d ≡ true → covering_reading h p d ≡ Some r
  pub first_held : (p d : ℕ) → covering_reading h p d ≡ find (λ r. covers r p d) (held_readings h)
  pub some_held : (p d : ℕ) → is_some (covering_reading h p d) ≡ list_any (λ r. covers r p d) (held_readings h)
  -- so it is the last on each day that it covers
  pub on_all_its_days :
      (p d e : ℕ) (r : Reading)
      → covering_reading h p d ≡ Some r → covers r p e ≡ true → covering_reading h p e ≡ Some r

-- so it is in every history of a book
abbrev pub LastCoveringIsHeld : Type 0
LastCoveringIsHeld = (s : Setting) (h : History) → IsLawful s h → LastIsHeld h

-- the held readings of a point lie end to end from its start day to its last mark
pub record HoldsEndToEnd (h : History) : Type 0 where
  -- each has a day, starts at a mark and ends at one
  pub ahead : (r : Reading) → Holds h r → r.start < r.end
  pub start_is_mark : (r : Reading) → Holds h r → is_mark h r.point r.start ≡ true
  pub end_is_mark : (r : Reading) → Holds h r → is_mark h r.point r.end ≡ true
  -- none starts before its point does, and a point that is not enrolled has none
  pub not_before_start : (r : Reading) → Holds h r → is_active h r.point r.start ≡ true
  pub only_enrolled : (r : Reading) → Holds h r → enrolment_of h r.point ≢ None
  -- no two share a day
  pub apart : AreApart (held_readings h)
  pub at_most_one : (p d : ℕ) → count_by (λ r. covers r p d) (held_readings h) ≤ 1
  -- each day from the start day up to a mark is covered, and no other is
  pub covered :
      (p d m : ℕ)
      → is_active h p d ≡ true → is_mark h p m ≡ true → d < m → is_some (covering_reading h p d) ≡ true
  pub exactly_one :
      (p d m : ℕ)
      → is_active h p d ≡ true → is_mark h p m ≡ true → d < m → count_by (λ r. covers r p d) (held_readings h) ≡ 1
  pub only_between :
      (p d : ℕ) (r : Reading)
      → covering_reading h p d ≡ Some r → (is_active h p d ≡ true) × (is_mark h p r.end ≡ true) × (d < r.end)

-- so they do in every history of a book
abbrev pub HeldLieEndToEnd : Type 0
HeldLieEndToEnd = (s : Setting) (h : History) → IsLawful s h → HoldsEndToEnd h

-- a newly accepted reading replaces whole readings, and firm ones only where it is firm itself
pub record ReplacesWholes (h : History) (r : Reading) : Type 0 where
  pub wholly : (old : Reading) → Holds h old → replaces r old ≡ true → (r.start ≤ old.start) × (old.end ≤ r.end)
  pub firm_by_firm :
      (old : Reading)
      → Holds h old → replaces r old ≡ true → is_firm old.reading_type ≡ true → is_firm r.reading_type ≡ true

-- so does every reading that a book accepts
abbrev pub ReadingsReplaceWholes : Type 0
ReadingsReplaceWholes =
    (s : Setting) (h : History) (r : Reading) → IsLawful s (ReadingTaken r ∷ h) → ReplacesWholes h r

-- no more readings are held than there are places
abbrev pub HeldWithinPlaces : Type 0
HeldWithinPlaces = (s : Setting) (h : History) → IsLawful s h → length (held_readings h) ≤ s.places

-- what an entry leaves as it was
pub record LeavesOthers (e : Entry) (h : History) : Type 0 where
  -- only readings change what is held, and only a point's own change what it holds and what covers its days
  pub held_stays : is_reading e ≡ false → held_readings (e ∷ h) ≡ held_readings h
  pub held_by_stays : (p : ℕ) → is_reading_of p e ≡ false → held_readings_of (e ∷ h) p ≡ held_readings_of h p
  pub covering_stays :
      (p d : ℕ) → is_reading_of p e ≡ false → covering_reading (e ∷ h) p d ≡ covering_reading h p d
  -- only a point's enrolment changes its enrolment
  pub enrolment_stays : (p : ℕ) → is_enrolment_of p e ≡ false → enrolment_of (e ∷ h) p ≡ enrolment_of h p
  -- only its own readings and its enrolment change its marks
  pub marks_stay :
      (p m : ℕ)
      → is_enrolment_of p e ≡ false → is_reading_of p e ≡ false → is_mark (e ∷ h) p m ≡ is_mark h p m
  pub last_mark_stays :
      (p m : ℕ)
      → is_enrolment_of p e ≡ false → is_reading_of p e ≡ false
      → is_after_all_marks (e ∷ h) p m ≡ is_after_all_marks h p m

-- so it does in every list of entries, of a book or not
abbrev pub OtherEntriesLeaveReadings : Type 0
OtherEntriesLeaveReadings = (e : Entry) (h : History) → LeavesOthers e h

-- a reading keeps within the limits of the book: its days, its points, and the largest energy
pub record KeepsLimits (s : Setting) (r : Reading) : Type 0 where
  pub ends_in_book : r.end ≤ s.days
  pub point_low : 1 ≤ r.point
  pub point_high : r.point ≤ s.points
  pub energy_limited : r.energy ≤ largest_energy

-- a reading keeps within the limits, and each day that it covers has a load
pub record LiesInBook (s : Setting) (h : History) (r : Reading) : Type 0 where
  pub within : KeepsLimits s r
  pub days_have_loads : (d : ℕ) → r.start ≤ d → d < r.end → is_some (load s h d) ≡ true

-- so does every held reading
abbrev pub HeldLieInBook : Type 0
HeldLieInBook = (s : Setting) (h : History) → IsLawful s h → (r : Reading) → Holds h r → LiesInBook s h r
