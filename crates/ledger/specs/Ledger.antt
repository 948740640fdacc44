-- What a ledger holds, when it is the ledger of a history, what its calls give, and what an
-- entry changes.
use Rattle.std.specs.Prelude.{◌≡◌, ℕ, ◌+◌, ◌-◌, ◌*◌, ◌<◌, ◌≤◌, Bool, T, if◌then◌else◌, not, ◌&&◌, List, [], ◌∷◌, map, drop, Some, None, Ok, Err, vec_items, vec_len, sum, count_by, Option, Result, Vec, OnErr, nat_lt, slice_index, slice_index_or, slice_set}
use Rattle.std.specs.List.{range_with_len}
use Rattle.std.specs.declared.alloc.Global.{Global}
use Rattle.allocation.specs.Loads.{adjusted, net_load, meters}
use Rattle.estimators.specs.Meaning.{Meaning}
use Rattle.rules.specs.Calls.{entry_of, refusal, is_between, named_date, day_of_date}
use Rattle.rules.specs.History.{History, Setting, enrolment_of, gate_of, interval_energy}
use Rattle.rules.specs.Readings.{replaces, held_readings}
use Rattle.rules.specs.declared.call.Call.{Call}
use Rattle.rules.specs.declared.entry.Enrolment.{Enrolment}
use Rattle.rules.specs.declared.entry.Entry.{Entry}
use Rattle.rules.specs.declared.entry.GateDay.{GateDay}
use Rattle.rules.specs.declared.entry.Reading.{Reading}
use Rattle.terms.specs.Refusal.{number_of, date_named}
use Rattle.terms.specs.declared.refusal.Refusal.{Refusal}
use Rattle.ledger.specs.Limits.{gate_within, interval_within}
use Rattle.ledger.specs.Opening.{opening_refusal, setting_of}
use Rattle.ledger.specs.Places.{holds_passing}
use Rattle.ledger.specs.declared.ledger.Ledger.{Ledger}
use Rattle.ledger.specs.declared.ledger.Lists.{Lists}
use Rattle.ledger.specs.declared.opening.Opening.{Opening}
use Rattle.ledger.specs.declared.opening.OpeningRequest.{OpeningRequest}
use Rattle.ledger.specs.declared.opening.Unopened.{Unopened}

-- What a ledger holds.

-- how its book was opened
abbrev pub ledger_opening : Ledger → Opening
ledger_opening l = l.opening

-- its list of interval energies
abbrev pub ledger_intervals : Ledger → Vec ℕ Global
ledger_intervals l = l.intervals

-- its list of reading places
abbrev pub ledger_places : Ledger → Vec (Option Reading) Global
ledger_places l = l.places

-- its book has such a day
abbrev pub HasDay : Ledger → ℕ → Type 0
HasDay l day = day < l.opening.days

-- its book has such a point
abbrev pub HasPoint : Ledger → ℕ → Type 0
HasPoint l point = (1 ≤ point) × (point ≤ l.opening.points)

-- the gate energies of a day of the book; another day has none
abbrev pub gate_at : Ledger → ℕ → Option GateDay
gate_at l day = if nat_lt day l.opening.days then slice_index_or l.gates day None else None

-- the energy of an interval meter on a day of the book, day by day and by meter; any other is 0
abbrev pub interval_at : Ledger → ℕ → ℕ → ℕ
interval_at l meter day =
    if nat_lt day l.opening.days && is_between 1 meters meter
    then slice_index (vec_items l.intervals) (day * meters + (meter - 1))
    else 0

-- what the first n interval meters burn on a day
unfoldable pub meters_sum : Ledger → ℕ → ℕ → ℕ
meters_sum l day n = sum (map (λ meter. interval_at l meter day) (range_with_len 1 n))

-- the net system load of a day with these gate energies
abbrev pub load_at : Ledger → ℕ → GateDay → ℕ
load_at l day gate =
    net_load gate.energy_in gate.energy_out
    (adjusted (meters_sum l day meters) l.opening.unaccounted)

-- the enrolment of a point of the book; another point has none
abbrev pub enrolment_at : Ledger → ℕ → Option Enrolment
enrolment_at l point =
    if is_between 1 l.opening.points point then slice_index_or l.enrolments (point - 1) None else None

-- what the interval list holds beyond the book's days
abbrev pub beyond_days : Ledger → List ℕ
beyond_days l = drop (l.opening.days * meters) (vec_items l.intervals)

-- The ledger of a history.

-- the ledger says what the history has told since the opening, and its places hold the held
-- readings, each in one place: whatever is asked of readings, as many places as held readings pass
pub record IsLedgerOf (s : Setting) (h : History) (l : Ledger) : Type 0 where
  pub first : l.opening.first ≡ s.first
  pub days : l.opening.days ≡ s.days
  pub points : l.opening.points ≡ s.points
  pub unaccounted : l.opening.unaccounted ≡ s.unaccounted
  pub room : vec_len l.places ≡ s.places
  pub gates : (d : ℕ) → gate_at l d ≡ gate_of h d
  pub intervals : (m d : ℕ) → interval_at l m d ≡ interval_energy h m d
  pub enrolments : (p : ℕ) → enrolment_at l p ≡ enrolment_of h p
  pub readings : (test : Reading → Bool)
      → count_by (holds_passing test) (vec_items l.places) ≡ count_by test (held_readings h)

-- P holds of every setting and history that the ledger is of
abbrev pub EachLedgerHistory : Ledger → (Setting → History → Type 0) → Type 0
EachLedgerHistory l P = (s : Setting) (h : History) → IsLedgerOf s h l → P s h

-- What the calls of a ledger give.

-- a call is refused as the law says: by the first condition that holds, with the day that it names
abbrev pub IsCallRefusal : Setting → History → Call → Refusal → Type 0
IsCallRefusal s h c e =
    (refusal s h c ≡ Some (number_of e)) × (date_named e ≡ named_date s h c (number_of e))

-- an entry is judged as the law says: it is refused, or what is given makes the call's entry
abbrev pub IsEntryJudgement : {X : Type 0}
    → Setting → History → Call → (X → Entry) → Result X Refusal → Type 0
IsEntryJudgement s h c made (Ok x) = (refusal s h c ≡ None) × (entry_of s c ≡ Some (made x))
IsEntryJudgement s h c made (Err e) = IsCallRefusal s h c e

-- a question is judged as the law says: it is refused, or given the day that its date is
abbrev pub IsQuestionJudgement : Setting → History → Call → ℕ → Result ℕ Refusal → Type 0
IsQuestionJudgement s h c date (Ok day) = (refusal s h c ≡ None) × (day ≡ day_of_date s date)
IsQuestionJudgement s h c date (Err e) = IsCallRefusal s h c e

-- the same of every history that the ledger is of
abbrev pub JudgesEntry : {X : Type 0} → Ledger → Call → (X → Entry) → Result X Refusal → Type 0
JudgesEntry l c made r = EachLedgerHistory l (λ s h. IsEntryJudgement s h c made r)

abbrev pub JudgesQuestion : Ledger → Call → ℕ → Result ℕ Refusal → Type 0
JudgesQuestion l c date r = EachLedgerHistory l (λ s h. IsQuestionJudgement s h c date r)

-- an accepted call lengthens the history by its entry, a refused one leaves it
abbrev pub IsLedgerAfter : Setting → History → Ledger → Result Entry Refusal → Type 0
IsLedgerAfter s h l (Ok e) = IsLedgerOf s (e ∷ h) l
IsLedgerAfter s h l (Err e) = IsLedgerOf s h l

-- of every history that the ledger was of, the entry is judged as the law says, and the ledger is
-- of what was accepted
abbrev pub EntersByLaw : Call → Ledger → Result Entry Refusal → Ledger → Type 0
EntersByLaw c old r new =
    EachLedgerHistory old (λ s h. IsEntryJudgement s h c (λ e. e) r × IsLedgerAfter s h new r)

-- an entry is made or refused: a refused one leaves the ledger as it was, and none touches what
-- lies beyond the book's days
pub record EntersInLedger (c : Call) (old : Ledger) (r : Result Entry Refusal) (new : Ledger) : Type 0 where
  pub refused : OnErr r (new ≡ old)
  pub law : EntersByLaw c old r new
  pub beyond : beyond_days new ≡ beyond_days old

-- what opens is of the empty history, whatever the estimator means, and leaves the interval places
-- beyond its days as they were
abbrev pub OpensLedger : OpeningRequest → Lists → Result Ledger (Unopened Lists) → Type 0
OpensLedger q lists (Ok l) =
    (opening_refusal q (vec_len lists.intervals) (vec_len lists.places) ≡ None)
    × ((m : Meaning) (u : ℕ → Meaning) → IsLedgerOf (setting_of q (vec_len lists.places) m u) [] l)
    × (drop (q.days * meters) (vec_items l.intervals)
    ≡ drop (q.days * meters) (vec_items lists.intervals))
OpensLedger q lists (Err e) =
    opening_refusal q (vec_len lists.intervals) (vec_len lists.places) ≡ Some (number_of e.refusal)

-- What an entry needs and changes; all else stays.

-- a ledger can hold such gate energies on such a day
abbrev pub FitsGate : Ledger → ℕ → GateDay → Type 0
FitsGate l day gate = HasDay l day × T (gate_within (Some gate))

-- a day has new gate energies
pub record WithGate (day : ℕ) (gate : GateDay) (old new : Ledger) : Type 0 where
  pub opening : new.opening ≡ old.opening
  pub gates : new.gates ≡ slice_set old.gates day (Some gate)
  pub intervals : new.intervals ≡ old.intervals
  pub enrolments : new.enrolments ≡ old.enrolments
  pub places : new.places ≡ old.places

-- a ledger can hold such an energy of such a meter and day
abbrev pub FitsInterval : Ledger → ℕ → ℕ → ℕ → Type 0
FitsInterval l day meter energy =
    HasDay l day × ((1 ≤ meter) × ((meter ≤ meters) × T (interval_within energy)))

-- a meter has a new energy on a day
pub record WithInterval (day meter energy : ℕ) (old new : Ledger) : Type 0 where
  pub opening : new.opening ≡ old.opening
  pub gates : new.gates ≡ old.gates
  pub intervals : vec_items new.intervals
      ≡ slice_set (vec_items old.intervals) (day * meters + (meter - 1)) energy
  pub enrolments : new.enrolments ≡ old.enrolments
  pub places : new.places ≡ old.places

-- a point is enrolled
pub record WithEnrolment (point : ℕ) (enrolment : Enrolment) (old new : Ledger) : Type 0 where
  pub opening : new.opening ≡ old.opening
  pub gates : new.gates ≡ old.gates
  pub intervals : new.intervals ≡ old.intervals
  pub enrolments : new.enrolments ≡ slice_set old.enrolments (point - 1) (Some enrolment)
  pub places : new.places ≡ old.places

-- a reading is held and those that it replaces are not; whatever is asked of readings, the places
-- that pass are counted so
pub record WithReading (r : Reading) (old new : Ledger) : Type 0 where
  pub opening : new.opening ≡ old.opening
  pub gates : new.gates ≡ old.gates
  pub intervals : new.intervals ≡ old.intervals
  pub enrolments : new.enrolments ≡ old.enrolments
  pub room : vec_len new.places ≡ vec_len old.places
  pub places : (test : Reading → Bool)
      → count_by (holds_passing test) (vec_items new.places)
      ≡ count_by (holds_passing (λ x. not (replaces r x) && test x)) (vec_items old.places)
      + (if test r then 1 else 0)
