-- The ledger of a history is, with the entry that it has taken, the ledger of the longer history. Assumes nothing.
use Rattle.std.proofs.Common.{◌≡◌, ℕ, ◌+◌, ◌-◌, ◌*◌, ◌<◌, ◌≤◌, Bool, true, false, cond, not, ◌&&◌, eqb, ltb, leb, List, ◌∷◌, length, drop, Some, None, vec_items, count_by, filter, sym, ap, ◌∙◌, ⊎_elim, add_comm, arith, drop-set-lt}
use Rattle.std.proofs.lemmas.Bool.{and_cases, and_from, and_parts, eqb-true, eqb-false, le-leb, leb-true, lt-ltb}
use Rattle.rules.specs.History.{History, Setting, enrolment_of, gate_of, interval_in, latest}
use Rattle.rules.specs.declared.entry.Entry.TheVariants.{DegreeDaysEntered, Enrolled, GateEntered, IntervalEntered, ReadingTaken}
use Rattle.rules.specs.Readings.{replaces, held_readings}
use Rattle.rules.specs.declared.entry.Enrolment.{Enrolment}
use Rattle.rules.specs.declared.entry.GateDay.{GateDay}
use Rattle.rules.specs.declared.entry.Reading.{Reading}
use Rattle.ledger.specs.Ledger.{IsLedgerOf, WithEnrolment, WithGate, WithInterval, WithReading, beyond_days}
use Rattle.ledger.proofs.PlaceCounts.{count_cons, count_kept}
use Rattle.ledger.proofs.Tables.{or_other, or_value, put_read}
use Rattle.ledger.specs.declared.ledger.Ledger.{Ledger}
use Rattle.allocation.specs.Loads.{meters}
use Rattle.rules.specs.Calls.{is_between}

pub gate_followed : {s : Setting} {h : History} {day : ℕ} {gate : GateDay} {old new : Ledger}
    → WithGate day gate old new → day < old.opening.days → day < length old.gates
    → IsLedgerOf s h old → IsLedgerOf s (GateEntered day gate ∷ h) new
gate_followed {s} {h} {day} {gate} {old} {new} change within long f = record {
  first = rw change.opening f.first;
  days = rw change.opening f.days;
  points = rw change.opening f.points;
  unaccounted = rw change.opening f.unaccounted;
  room = rw change.places f.room;
  gates = λ d.
      let written = put_read old.gates None (Some gate) (ltb d old.opening.days) (eqb day d) day d
      (λ same. (lt-ltb d _ (omega (arith, eqb-true day d same)), omega (arith, eqb-true day d same)))
      (λ other _ e. eqb-false day d other (sym e)) long in
      rw (change.opening, change.gates) (written ∙ rw (f.gates d) (or_other (eqb day d) gate (gate_of h d)));
  intervals = λ m d. rw (change.opening, change.intervals) (f.intervals m d);
  enrolments = λ p. rw (change.opening, change.enrolments) (f.enrolments p);
  readings = λ test. rw change.places (f.readings test);
}

-- the cell of a meter and day is theirs alone
same_cell : (day meter d m days : ℕ) → day < days → 1 ≤ meter → meter ≤ 32
    → (eqb meter m && eqb day d) ≡ true
    → ((ltb d days && is_between 1 meters m) ≡ true) × (d * 32 + (m - 1) ≡ day * 32 + (meter - 1))
same_cell day meter d m days within low high same =
    let parts = and_parts (eqb meter m) (eqb day d) same in
    let meters_same : meter ≡ m = eqb-true meter m parts.0 in
    let days_same : day ≡ d = eqb-true day d parts.1 in (
      and_from _ _ (lt-ltb d days (omega arith)) (and_from _ _ (le-leb 1 m (omega arith)) (le-leb m 32 (omega arith))),
      omega arith,
    )

other_cell : (day meter d m days : ℕ) → 1 ≤ meter → meter ≤ 32 → (eqb meter m && eqb day d) ≡ false
    → (ltb d days && is_between 1 meters m) ≡ true → d * 32 + (m - 1) ≡ day * 32 + (meter - 1) → ⊥
other_cell day meter d m days low high other inside e =
    let parts = and_parts (ltb d days) (is_between 1 meters m) inside in
    let bounds = and_parts (leb 1 m) (leb m meters) parts.1 in
    let m_low : 1 ≤ m = leb-true 1 m bounds.0 in
    let m_high : m ≤ 32 = leb-true m 32 bounds.1 in
    ⊎_elim (λ not_meter. eqb-false meter m not_meter (omega arith)) (λ not_day. eqb-false day d not_day (omega arith)) (and_cases (eqb meter m) (eqb day d) other)

pub interval_followed : {s : Setting} {h : History} {day meter energy : ℕ} {old new : Ledger}
    → WithInterval day meter energy old new → day < old.opening.days → 1 ≤ meter → meter ≤ 32
    → day * 32 + (meter - 1) < length (vec_items old.intervals) → IsLedgerOf s h old
    → IsLedgerOf s (IntervalEntered day meter energy ∷ h) new
interval_followed {s} {h} {day} {meter} {energy} {old} {new} change within low high long f = record {
  first = rw change.opening f.first;
  days = rw change.opening f.days;
  points = rw change.opening f.points;
  unaccounted = rw change.opening f.unaccounted;
  room = rw change.places f.room;
  gates = λ d. rw (change.opening, change.gates) (f.gates d);
  intervals = λ m d.
      let written = put_read (vec_items old.intervals) 0 energy (ltb d old.opening.days && is_between 1 meters m) (eqb meter m && eqb day d) (day * 32 + (meter - 1)) (d * 32 + (m - 1))
      (same_cell day meter d m old.opening.days within low high) (other_cell day meter d m old.opening.days low high) long in
      rw (change.opening, change.intervals) (written ∙ rw (f.intervals m d) (or_value (eqb meter m && eqb day d) energy 0 (latest (interval_in m d) h)));
  enrolments = λ p. rw (change.opening, change.enrolments) (f.enrolments p);
  readings = λ test. rw change.places (f.readings test);
}

same_row : (point p points : ℕ) → 1 ≤ point → point ≤ points → eqb point p ≡ true
    → (is_between 1 points p ≡ true) × (p - 1 ≡ point - 1)
same_row point p points low high same =
    let e : point ≡ p = eqb-true point p same in
    (and_from _ _ (le-leb 1 p (omega arith)) (le-leb p points (omega arith)), omega arith)

other_row : (point p points : ℕ) → 1 ≤ point → eqb point p ≡ false → is_between 1 points p ≡ true → p - 1 ≡ point - 1 → ⊥
other_row point p points low other inside e =
    let p_low : 1 ≤ p = leb-true 1 p (and_parts (leb 1 p) (leb p points) inside).0 in
    eqb-false point p other (omega arith)

pub enrolment_followed : {s : Setting} {h : History} {point : ℕ} {enrolment : Enrolment} {old new : Ledger}
    → WithEnrolment point enrolment old new → 1 ≤ point → point ≤ old.opening.points
    → point - 1 < length old.enrolments → IsLedgerOf s h old
    → IsLedgerOf s (Enrolled point enrolment ∷ h) new
enrolment_followed {s} {h} {point} {enrolment} {old} {new} change low high long f = record {
  first = rw change.opening f.first;
  days = rw change.opening f.days;
  points = rw change.opening f.points;
  unaccounted = rw change.opening f.unaccounted;
  room = rw change.places f.room;
  gates = λ d. rw (change.opening, change.gates) (f.gates d);
  intervals = λ m d. rw (change.opening, change.intervals) (f.intervals m d);
  enrolments = λ p.
      let written = put_read old.enrolments None (Some enrolment) (is_between 1 old.opening.points p) (eqb point p) (point - 1) (p - 1)
      (same_row point p old.opening.points low high) (other_row point p old.opening.points low) long in
      rw (change.opening, change.enrolments) (written ∙ rw (f.enrolments p) (or_other (eqb point p) enrolment (enrolment_of h p)));
  readings = λ test. rw change.places (f.readings test);
}

-- a degree-day count is the estimator's: the ledger is of the longer history as it is
pub count_followed : {s : Setting} {h : History} {l : Ledger} (day count : ℕ) → IsLedgerOf s h l
    → IsLedgerOf s (DegreeDaysEntered day count ∷ h) l
count_followed day count f = record {
  first = f.first;
  days = f.days;
  points = f.points;
  unaccounted = f.unaccounted;
  room = f.room;
  gates = f.gates;
  intervals = f.intervals;
  enrolments = f.enrolments;
  readings = f.readings;
}

-- the readings held once one more is taken, counted by a test
held_more : (r : Reading) (test : Reading → Bool) (rs : List Reading)
    → count_by (λ x. not (replaces r x) && test x) rs + cond (test r) 1 0 ≡ count_by test (r ∷ filter (λ x. not (replaces r x)) rs)
held_more r test rs =
    add_comm _ (cond (test r) 1 0) ∙ ap (λ n. cond (test r) 1 0 + n) (sym (count_kept test (λ x. not (replaces r x)) rs)) ∙ sym (count_cons test r (filter (λ x. not (replaces r x)) rs))

pub reading_followed : {s : Setting} {h : History} {r : Reading} {old new : Ledger}
    → WithReading r old new → IsLedgerOf s h old → IsLedgerOf s (ReadingTaken r ∷ h) new
reading_followed {s} {h} {r} {old} {new} change f = record {
  first = rw change.opening f.first;
  days = rw change.opening f.days;
  points = rw change.opening f.points;
  unaccounted = rw change.opening f.unaccounted;
  room = change.room ∙ f.room;
  gates = λ d. rw (change.opening, change.gates) (f.gates d);
  intervals = λ m d. rw (change.opening, change.intervals) (f.intervals m d);
  enrolments = λ p. rw (change.opening, change.enrolments) (f.enrolments p);
  readings = λ test.
      change.places test ∙ ap (λ n. n + cond (test r) 1 0) (f.readings (λ x. not (replaces r x) && test x)) ∙ held_more r test (held_readings h);
}

-- What an entry leaves of the interval places beyond the book's days.

-- an entry that leaves the interval list
pub same_beyond : (old new : Ledger) → new.opening ≡ old.opening → new.intervals ≡ old.intervals
    → beyond_days new ≡ beyond_days old
same_beyond old new opening intervals = λ i. drop ((opening i).days * 32) (vec_items (intervals i))

-- an interval energy of a day of the book
pub interval_beyond : {day meter energy : ℕ} {old new : Ledger}
    → WithInterval day meter energy old new → day < old.opening.days → 1 ≤ meter → meter ≤ 32
    → beyond_days new ≡ beyond_days old
interval_beyond {day} {meter} {energy} {old} {new} change within low high =
    (λ i. drop ((change.opening i).days * 32) (change.intervals i))
    ∙ drop-set-lt (old.opening.days * 32) (vec_items old.intervals) (day * 32 + (meter - 1)) energy (omega arith)
