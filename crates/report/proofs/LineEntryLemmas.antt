-- One line: what it says, and how that is answered. Assumes nothing.
use Rattle.std.proofs.Common.{◌≡◌, ℕ, ◌+◌, ◌≤◌, min, Bool, true, false, cond, List, [], ◌∷◌, Some, None, Ok, Err, Option, Result, sym, refl, ap, ◌∙◌, subst, arith}
use Rattle.std.specs.Option.{option_map, option_or, unwrap_or}
use Rattle.line_format.specs.declared.fault.Fault.{Fault}
use Rattle.line_format.specs.declared.record.Record.{Record}
use Rattle.terms.specs.Refusal.{number_of, layer_number, layer_of, date_named}
use Rattle.terms.specs.declared.refusal.Refusal.{Refusal}
use Rattle.terms.specs.declared.refusal.Refusal.TheVariants.{MalformedLine, OutOfTurn, BeyondLimits, NoSuchDate, OutsideBook, NegativeEnergy, PointNotEnrolled, PointEnrolledAlready, StartIsNoMark, EndNotAllowed, CoveredDayWithoutLoad, SoftOverFirm, ReadingPlacesFull, AskedDayWithoutLoad, ListTooShort}
use Rattle.report.specs.declared.intake.Intake.{Intake}
use Rattle.estimates.specs.declared.by_weather.ByWeather.{ByWeather}
use Rattle.report.specs.declared.stage.Stage.{Stage}
use Rattle.report.specs.declared.stage.Stage.TheVariants as stage
use Rattle.report.specs.Intake.{EntersLine, EntersRecord, IsStageOf, is_turn_at}
use Rattle.report.specs.IntakeHistory.{IntakeHistory, history_with_record, opened, unopened}
use Rattle.report.specs.LineContent.{layer_by_number, malformed_at, record_is, reported_answer, reported_refusal}
use Rattle.report.specs.RecordRefusal.{PlacedRefusal, history_unless_refused, is_in_turn, turn_refusal, placed_refusal, refusal_by_book}
use Rattle.line_format.specs.Limits.{dates_exist, leftmost_refusal, field_refusal, verdict, numbers_within, largest_book}
use Rattle.line_format.specs.Fault.{on_line, last_line_number}
use Rattle.line_format.specs.Line.{ReadsLine}

-- the first four refusals name no day
pub names_none : (e : Refusal) (n : ℕ) → number_of e ≡ n → n ≤ 4 → date_named e ≡ None
names_none MalformedLine n is few = refl
names_none OutOfTurn n is few = refl
names_none BeyondLimits n is few = refl
names_none NoSuchDate n is few = refl
names_none OutsideBook n is few = refl
names_none NegativeEnergy n is few = refl
names_none PointNotEnrolled n is few = refl
names_none PointEnrolledAlready n is few = refl
names_none StartIsNoMark n is few = refl
names_none EndNotAllowed n is few = refl
names_none (CoveredDayWithoutLoad date) n is few = absurd (omega arith)
names_none SoftOverFirm n is few = refl
names_none ReadingPlacesFull n is few = refl
names_none (AskedDayWithoutLoad date) n is few = absurd (omega arith)
names_none ListTooShort n is few = refl

-- the layer of a refusal follows from its number
pub layers : (e : Refusal) → layer_number (layer_of e) ≡ layer_by_number (number_of e)
layers MalformedLine = refl
layers OutOfTurn = refl
layers BeyondLimits = refl
layers NoSuchDate = refl
layers OutsideBook = refl
layers NegativeEnergy = refl
layers PointNotEnrolled = refl
layers PointEnrolledAlready = refl
layers StartIsNoMark = refl
layers EndNotAllowed = refl
layers (CoveredDayWithoutLoad date) = refl
layers SoftOverFirm = refl
layers ReadingPlacesFull = refl
layers (AskedDayWithoutLoad date) = refl
layers ListTooShort = refl

-- a refusal with the number of its line, in the words of the report
pub fail_placed : (k n : ℕ) (r : Result (Unit {0}) Fault) → n ≡ min (k + 1) last_line_number → reported_answer (on_line n r) ≡ option_map (reported_refusal k) (placed_refusal r)
fail_placed k n (Ok x) is = refl
fail_placed k n (Err f) is = λ i. Some (record {
  line = is i;
  layer = layers f.refusal i;
  number = number_of f.refusal;
  column = f.column;
  date = unwrap_or (date_named f.refusal) 0;
})

-- a refusal that names no day
refused_plainly : (f : Fault) (n : ℕ) → number_of f.refusal ≡ n → n ≤ 4 → placed_refusal {X = Unit {0}} (Err f) ≡ Some (record { number = n; column = f.column; date = None })
refused_plainly f n is few = λ i. Some (record { number = is i; column = f.column; date = names_none f.refusal n is few i })

-- a malformed line leaves the history
pub malformed_enters : (bytes : List ℕ) (f : Fault) (intake : Intake) → ReadsLine bytes (Err f) → EntersLine bytes (Err f) intake intake
malformed_enters bytes f intake read t stands = (malformed_at f.column, read.1, refused_plainly f 1 read.0 (omega arith), stands)

-- a refusal by the limits decides before a later one
abbrev limits_first : Option (ℕ × ℕ) → Option PlacedRefusal → Option PlacedRefusal
limits_first v later = option_or (option_map (λ at. record { number = at.0; column = at.1; date = None }) v) later

-- the stage tells whose turn it is
turn_at : (t : IntakeHistory) (s : Stage) (w : ByWeather) (x : Record) → IsStageOf t s w → is_in_turn t x ≡ is_turn_at s x
turn_at (unopened fs) (stage.Unopened lists) w x is = refl
turn_at (unopened fs) stage.Opening w x is = absurd is
turn_at (unopened fs) (stage.Opened o) w x is = absurd is
turn_at (opened s h) (stage.Unopened lists) w x is = absurd is
turn_at (opened s h) stage.Opening w x is = absurd is
turn_at (opened s h) (stage.Opened o) w x is = refl

-- a record out of turn
turn_decides : (b : Bool) (later : Option PlacedRefusal) (r : PlacedRefusal) (t w : IntakeHistory) → Some r ≡ cond b None (Some turn_refusal) → (Some r ≡ cond b later (Some turn_refusal)) × (history_unless_refused (cond b later (Some turn_refusal)) t w ≡ t)
turn_decides true later r t w is = absurd (cc)
turn_decides false later r t w is = (is, refl)

pub turn_enters : (bytes : List ℕ) (x : Record) (f : Fault) (intake : Intake) → ReadsLine bytes (Ok x)
    → placed_refusal {X = Unit {0}} (Err f) ≡ cond (is_turn_at intake.stage x) None (Some turn_refusal) → EntersLine bytes (Err f) intake intake
turn_enters bytes x f intake read turn t stands =
    let told = turn_decides (is_in_turn t x) (limits_first (verdict largest_book x) (refusal_by_book t x)) _ t (history_with_record t x) (turn ∙ ap (λ b. cond b None (Some turn_refusal)) (sym (turn_at t intake.stage intake.weather x stands))) in
    (record_is x, read, told.0, subst (λ (y : IntakeHistory). IsStageOf y intake.stage intake.weather) (sym told.1) stands)

pub in_turn_since : (b : Bool) → None ≡ cond b None (Some turn_refusal) → b ≡ true
in_turn_since true is = refl
in_turn_since false is = absurd (cc)

-- a record beyond its limits, or with a date that there is not
abbrev pub number_in : Option (ℕ × ℕ) → ℕ
number_in None = 0
number_in (Some at) = at.0

leftmost_number : (n c : ℕ) (fields : List Bool) (m d : ℕ) → leftmost_refusal n c fields ≡ Some (m, d) → m ≡ n
leftmost_number n c [] m d is = absurd (cc)
leftmost_number n c (true ∷ bs) m d is = leftmost_number n (c + 10) bs m d is
leftmost_number n c (false ∷ bs) m d is = sym (ap number_in is)

either_number : (a b : Option (ℕ × ℕ)) (m d : ℕ) → ((m d : ℕ) → a ≡ Some (m, d) → m ≡ 3) → ((m d : ℕ) → b ≡ Some (m, d) → m ≡ 4) → option_or a b ≡ Some (m, d) → m ≤ 4
either_number None b m d three four is = let same : m ≡ 4 = four m d is in omega arith
either_number (Some p) b m d three four is = let same : m ≡ 3 = three m d is in omega arith

verdict_number : (x : Record) (m d : ℕ) → verdict largest_book x ≡ Some (m, d) → m ≤ 4
verdict_number x m d is =
    either_number (field_refusal 3 (numbers_within largest_book x)) (field_refusal 4 (dates_exist x)) m d (leftmost_number 3 5 (numbers_within largest_book x)) (leftmost_number 4 5 (dates_exist x)) is

limits_decide : (b : Bool) (v : Option (ℕ × ℕ)) (later : Option PlacedRefusal) (n c : ℕ) (t w : IntakeHistory) → b ≡ true → v ≡ Some (n, c)
    → (cond b (limits_first v later) (Some turn_refusal) ≡ Some (record { number = n; column = c; date = None })) × (history_unless_refused (cond b (limits_first v later) (Some turn_refusal)) t w ≡ t)
limits_decide b v later n c t w turn is = rw (turn, is) (refl, refl)

pub limits_enter : (bytes : List ℕ) (x : Record) (f : Fault) (intake : Intake) → ReadsLine bytes (Ok x)
    → is_turn_at intake.stage x ≡ true
    → Some (number_of f.refusal, f.column) ≡ verdict largest_book x → EntersLine bytes (Err f) intake intake
limits_enter bytes x f intake read turn refused t stands =
    let told = limits_decide (is_in_turn t x) (verdict largest_book x) (refusal_by_book t x) (number_of f.refusal) f.column t (history_with_record t x) (turn_at t intake.stage intake.weather x stands ∙ turn) (sym refused) in
    (record_is x, read, refused_plainly f (number_of f.refusal) refl (verdict_number x (number_of f.refusal) f.column (sym refused)) ∙ sym told.0, subst (λ (y : IntakeHistory). IsStageOf y intake.stage intake.weather) (sym told.1) stands)

-- a record in its turn and within its limits is judged by the book
book_decides : (b : Bool) (v : Option (ℕ × ℕ)) (later : Option PlacedRefusal) → b ≡ true → v ≡ None → later ≡ cond b (limits_first v later) (Some turn_refusal)
book_decides b v later turn none = rw (turn, none)

pub record_enters : (bytes : List ℕ) (x : Record) (r : Result (Unit {0}) Fault) (intake new : Intake) → ReadsLine bytes (Ok x)
    → is_turn_at intake.stage x ≡ true → None ≡ verdict largest_book x
    → EntersRecord x r intake new → EntersLine bytes r intake new
record_enters bytes x r intake new read turn within accepts t stands =
    let now = turn_at t intake.stage intake.weather x stands ∙ turn in
    let done = accepts t stands in
    let same = book_decides (is_in_turn t x) (verdict largest_book x) (refusal_by_book t x) now (sym within) in
    (record_is x, read, done.0 ∙ same, subst (λ (o : Option PlacedRefusal). IsStageOf (history_unless_refused o t (history_with_record t x)) new.stage new.weather) same done.1)
