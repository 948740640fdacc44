-- Up to which day the readings of each point reach.
use Rattle.std.specs.Prelude.{◌≡◌, ℕ, ◌-◌, ◌<◌, ◌≤◌, max, ◌&&◌, List, [], ◌∷◌, length, is_some, nat_lt, slice_index, slice_set}
use Rattle.rules.specs.History.{History, Setting, covering_reading}
use Rattle.rules.specs.declared.entry.Enrolment.{Enrolment}
use Rattle.rules.specs.declared.entry.Entry.TheVariants.{DegreeDaysEntered, Enrolled, GateEntered, IntervalEntered, ReadingTaken}
use Rattle.rules.specs.declared.entry.GateDay.{GateDay}
use Rattle.rules.specs.declared.entry.Reading.{Reading}
use Rattle.rules.specs.Calls.{IsLawful}
use Rattle.rules.specs.Figures.{is_active}

-- a history covers of each point up to n the days from its start day up to the end at its place, and no others
abbrev pub CoversTo : History → ℕ → List ℕ → Type 0
CoversTo h n ends =
    (p d : ℕ) → 1 ≤ p → p ≤ n
    → is_some (covering_reading h p d) ≡ (is_active h p d && nat_lt d (slice_index ends (p - 1)))

-- how those days move as a history is lengthened
pub record CoverageReaches : Type 0 where
  pub at_opening : (n : ℕ) (ends : List ℕ) → CoversTo [] n ends
  -- an enrolled point is covered to its start day
  pub after_enrolment :
      (s : Setting) (h : History) (n p : ℕ) (e : Enrolment) (ends : List ℕ)
      → IsLawful s (Enrolled p e ∷ h) → CoversTo h n ends → 1 ≤ p → p - 1 < length ends
      → CoversTo (Enrolled p e ∷ h) n (slice_set ends (p - 1) e.start)
  -- a reading covers its point to its end, or leaves the day where that is later
  pub after_reading :
      (s : Setting) (h : History) (n : ℕ) (r : Reading) (ends : List ℕ)
      → IsLawful s (ReadingTaken r ∷ h) → CoversTo h n ends → r.point ≤ n → r.point - 1 < length ends
      → CoversTo (ReadingTaken r ∷ h) n (slice_set ends (r.point - 1) (max (slice_index ends (r.point - 1)) r.end))
  -- no other entry moves them
  pub after_gate :
      (h : History) (n day : ℕ) (gate : GateDay) (ends : List ℕ)
      → CoversTo h n ends → CoversTo (GateEntered day gate ∷ h) n ends
  pub after_interval :
      (h : History) (n day meter energy : ℕ) (ends : List ℕ)
      → CoversTo h n ends → CoversTo (IntervalEntered day meter energy ∷ h) n ends
  pub after_degree_days :
      (h : History) (n day count : ℕ) (ends : List ℕ)
      → CoversTo h n ends → CoversTo (DegreeDaysEntered day count ∷ h) n ends
