-- The refusal of a reading, from the tests that lead to it. Assumes nothing.
use Rattle.std.proofs.Common.{◌≡◌, ℕ, ◌+◌, Bool, true, false, cond, ◌&&◌, eqb, is_some, Some, None, Ok, Err, Option, sym, refl, ap, ◌∙◌, arith}
use Rattle.std.proofs.lemmas.Bool.{and_from, cond-false, cond-true, not_from_false, not_from_true}
use Rattle.std.specs.Option.{option_or}
use Rattle.calendar.specs.Digits.{day_number_of, is_date, date_of_day_number}
use Rattle.rules.specs.Calls.{entry_of, reading_of, refusal, is_between, is_beyond_limits, date_of_day, covers_day_without_load, ends_where_not_allowed, is_energy_within_limit, first_day_without_load, is_in_book, has_negative_energy, names_no_date, names_unenrolled_point, names_day_outside_book, starts_at_no_mark}
use Rattle.rules.specs.History.{History, Setting, covered_days}
use Rattle.rules.specs.declared.call.Call.{Call}
use Rattle.rules.specs.declared.call.Call.TheVariants.{EnterReading}
use Rattle.rules.specs.declared.call.Delivery.{Delivery}
use Rattle.rules.specs.declared.entry.Entry.TheVariants.{ReadingTaken}
use Rattle.rules.specs.declared.entry.Reading.{Reading}
use Rattle.terms.specs.Refusal.{number_of, date_named}
use Rattle.terms.specs.declared.refusal.Refusal.{Refusal}
use Rattle.terms.specs.declared.refusal.Refusal.TheVariants.{MalformedLine, OutOfTurn, BeyondLimits, NoSuchDate, OutsideBook, NegativeEnergy, PointNotEnrolled, PointEnrolledAlready, StartIsNoMark, EndNotAllowed, CoveredDayWithoutLoad, SoftOverFirm, ReadingPlacesFull, AskedDayWithoutLoad, ListTooShort}
use Rattle.ledger.specs.Ledger.{IsEntryJudgement, IsLedgerOf}
use Rattle.ledger.specs.Opening.{has_day_number}
use Rattle.ledger.specs.Readings.{IsNumbersJudgement, IsSpanJudgement, is_end_allowed_at, is_full_at, is_mark_at, is_soft_over_firm_at, numbers_refusal, span_named, reading_span_refusal}
use Rattle.ledger.proofs.Marks.{end_followed, full_followed, mark_followed, soft_followed}
use Rattle.ledger.specs.declared.ledger.Ledger.{Ledger}

-- what a ledger's own tests of a reading say of its refusal
module _ {s : Setting} {h : History} {l : Ledger} (f : IsLedgerOf s h l) (r : Reading) where
  marked : is_mark_at l r.point r.start ≡ true → starts_at_no_mark h r ≡ false
  marked start = not_from_true _ (sym (mark_followed f r.point r.start) ∙ start)

  allowed : is_end_allowed_at l r ≡ true → ends_where_not_allowed h r ≡ false
  allowed end = sym (end_followed f r) ∙ not_from_true _ end

  loaded : None ≡ first_day_without_load s h (covered_days r) → covers_day_without_load s h r ≡ false
  loaded loads = ap is_some (sym loads)

  pub no_start : is_mark_at l r.point r.start ≡ false → (reading_span_refusal s h r ≡ Some 9) × (None ≡ span_named s h r 9)
  unfolding reading_span_refusal span_named
  no_start start = (cond-true _ _ _ (not_from_false _ (sym (mark_followed f r.point r.start) ∙ start)), refl)

  pub no_end : is_mark_at l r.point r.start ≡ true → is_end_allowed_at l r ≡ false
      → (reading_span_refusal s h r ≡ Some 10) × (None ≡ span_named s h r 10)
  unfolding reading_span_refusal span_named
  no_end start end = (cond-false _ _ _ (marked start) ∙ cond-true _ _ _ (sym (end_followed f r) ∙ not_from_false _ end), refl)

  pub no_day_load : (day date : ℕ) → is_mark_at l r.point r.start ≡ true
      → is_end_allowed_at l r ≡ true → Some day ≡ first_day_without_load s h (covered_days r)
      → date ≡ date_of_day_number (l.opening.first + day)
      → (reading_span_refusal s h r ≡ Some 11) × (Some date ≡ span_named s h r 11)
  unfolding reading_span_refusal span_named
  no_day_load day date start end day_found dated = (
    cond-false _ _ _ (marked start) ∙ cond-false _ _ _ (allowed end) ∙ cond-true _ _ _ (ap is_some (sym day_found)),
    ap Some (dated ∙ ap (λ n. date_of_day_number (n + day)) f.first) ∙ ap (date_of_day s) day_found,
  )

  pub no_soft : is_mark_at l r.point r.start ≡ true → is_end_allowed_at l r ≡ true
      → None ≡ first_day_without_load s h (covered_days r) → is_soft_over_firm_at l r ≡ true
      → (reading_span_refusal s h r ≡ Some 12) × (None ≡ span_named s h r 12)
  unfolding reading_span_refusal span_named
  no_soft start end loads soft = (
    cond-false _ _ _ (marked start) ∙ cond-false _ _ _ (allowed end) ∙ cond-false _ _ _ (loaded loads) ∙ cond-true _ _ _ (sym (soft_followed f r) ∙ soft),
    refl,
  )

  pub no_place : is_mark_at l r.point r.start ≡ true → is_end_allowed_at l r ≡ true
      → None ≡ first_day_without_load s h (covered_days r) → is_soft_over_firm_at l r ≡ false
      → is_full_at l r ≡ true → (reading_span_refusal s h r ≡ Some 13) × (None ≡ span_named s h r 13)
  unfolding reading_span_refusal span_named
  no_place start end loads soft full = (
    cond-false _ _ _ (marked start) ∙ cond-false _ _ _ (allowed end) ∙ cond-false _ _ _ (loaded loads) ∙ cond-false _ _ _ (sym (soft_followed f r) ∙ soft)
        ∙ cond-true _ _ _ (sym (full_followed f r) ∙ full),
    refl,
  )

  pub span_accepted : is_mark_at l r.point r.start ≡ true → is_end_allowed_at l r ≡ true
      → None ≡ first_day_without_load s h (covered_days r) → is_soft_over_firm_at l r ≡ false
      → is_full_at l r ≡ false → reading_span_refusal s h r ≡ None
  unfolding reading_span_refusal
  span_accepted start end loads soft full =
      cond-false _ _ _ (marked start) ∙ cond-false _ _ _ (allowed end) ∙ cond-false _ _ _ (loaded loads) ∙ cond-false _ _ _ (sym (soft_followed f r) ∙ soft)
      ∙ cond-false _ _ _ (sym (full_followed f r) ∙ full)

-- a refusal for a date outside the book names no day
pub names_none : (e : Refusal) → number_of e ≡ 5 → date_named e ≡ None
names_none MalformedLine e = refl
names_none OutOfTurn e = refl
names_none BeyondLimits e = refl
names_none NoSuchDate e = refl
names_none OutsideBook e = refl
names_none NegativeEnergy e = refl
names_none PointNotEnrolled e = refl
names_none PointEnrolledAlready e = refl
names_none StartIsNoMark e = refl
names_none EndNotAllowed e = refl
names_none (CoveredDayWithoutLoad date) e = absurd (omega arith)
names_none SoftOverFirm e = refl
names_none ReadingPlacesFull e = refl
names_none (AskedDayWithoutLoad date) e = absurd (omega arith)
names_none ListTooShort e = refl

-- a day number lies in the book's days where its date does
pub in_book_of : {s : Setting} {h : History} {l : Ledger} (later date number : ℕ) (b : Bool)
    → IsLedgerOf s h l → number ≡ day_number_of date → has_day_number l.opening later number ≡ b
    → is_in_book s later date ≡ b
in_book_of {s} {h} {l} later date number b f numbered inside = rw (← f.first, ← f.days, ← numbered) inside

-- a date outside the book
pub outside_refused : (s : Setting) (h : History) (delivery : Delivery) (e : Refusal)
    → is_between 1 s.points delivery.point ≡ true → is_energy_within_limit delivery.energy ≡ true
    → is_date delivery.start ≡ true → is_date delivery.end ≡ true
    → (is_in_book s 0 delivery.start && is_in_book s 1 delivery.end) ≡ false → number_of e ≡ 5
    → IsNumbersJudgement s h (EnterReading delivery) (Err e)
outside_refused s h delivery e pointed limited start_real end_real outside five = (
  cond-false _ _ _ (not_from_true _ (and_from _ _ pointed limited)) ∙ cond-false _ _ _ (not_from_true _ (and_from _ _ start_real end_real))
      ∙ cond-true _ _ _ (not_from_false _ outside)
      ∙ ap Some (sym five),
  names_none e five,
)

split : (b3 b4 b5 b6 b7 : Bool) (rest : Option ℕ)
    → cond b3 (Some 3) (cond b4 (Some 4) (cond b5 (Some 5) (cond b6 (Some 6) (cond b7 (Some 7) rest)))) ≡ option_or (cond b3 (Some 3) (cond b4 (Some 4) (cond b5 (Some 5) (cond b6 (Some 6) (cond b7 (Some 7) None))))) rest
split true b4 b5 b6 b7 rest = refl
split false true b5 b6 b7 rest = refl
split false false true b6 b7 rest = refl
split false false false true b7 rest = refl
split false false false false true rest = refl
split false false false false false rest = refl

-- none of the refusals for numbers names a day
unnamed : (b3 b4 b5 b6 b7 : Bool) (n : ℕ)
    → cond b3 (Some 3) (cond b4 (Some 4) (cond b5 (Some 5) (cond b6 (Some 6) (cond b7 (Some 7) None)))) ≡ Some n
    → eqb n 11 ≡ false
unnamed true b4 b5 b6 b7 n e = let same : 3 ≡ n = cc in rw (sym same) refl
unnamed false true b5 b6 b7 n e = let same : 4 ≡ n = cc in rw (sym same) refl
unnamed false false true b6 b7 n e = let same : 5 ≡ n = cc in rw (sym same) refl
unnamed false false false true b7 n e = let same : 6 ≡ n = cc in rw (sym same) refl
unnamed false false false false true n e = let same : 7 ≡ n = cc in rw (sym same) refl
unnamed false false false false false n e = let z : ◌≡◌ {A = ℕ} 0 1 = cc in absurd (omega arith)

module _ (s : Setting) (h : History) (delivery : Delivery) where
  abbrev call : Call
  call = EnterReading delivery

  abbrev taken : Reading
  taken = reading_of s delivery

  -- the refusal of a reading: that of its numbers, else that of its span
  in_turn : refusal s h call ≡ option_or (numbers_refusal s h call) (reading_span_refusal s h taken)
  unfolding reading_span_refusal
  in_turn = split (is_beyond_limits s call) (names_no_date call) (names_day_outside_book s call) (has_negative_energy call) (names_unenrolled_point h call) (reading_span_refusal s h taken)

  pub numbers_refused : (e : Refusal) → IsNumbersJudgement s h call (Err e)
      → IsEntryJudgement s h call ReadingTaken (Err e)
  numbers_refused e judged = (
    in_turn ∙ ap (λ o. option_or o (reading_span_refusal s h taken)) judged.0,
    judged.1
        ∙ sym
        (cond-false _ _ _
        (unnamed (is_beyond_limits s call) (names_no_date call) (names_day_outside_book s call) (has_negative_energy call) (names_unenrolled_point h call) (number_of e) judged.0)),
  )

  same_reading : (r : Reading) → entry_of s call ≡ Some (ReadingTaken r) → taken ≡ r
  same_reading r e = cc

  passed : (r : Reading) → IsNumbersJudgement s h call (Ok r) → refusal s h call ≡ reading_span_refusal s h r
  passed r numbers = in_turn ∙ ap (λ o. option_or o (reading_span_refusal s h taken)) numbers.0 ∙ ap (reading_span_refusal s h) (same_reading r numbers.1)

  pub span_refused : (r : Reading) (e : Refusal) → IsNumbersJudgement s h call (Ok r)
      → IsSpanJudgement {X = Unit {0}} s h r (Err e)
      → IsEntryJudgement s h call ReadingTaken (Err e)
  unfolding span_named
  span_refused r e numbers judged =
      (passed r numbers ∙ judged.0, judged.1 ∙ ap (λ x. span_named s h x (number_of e)) (sym (same_reading r numbers.1)))

  pub reading_accepted : (r : Reading) → IsNumbersJudgement s h call (Ok r)
      → reading_span_refusal s h r ≡ None → IsEntryJudgement s h call ReadingTaken (Ok r)
  reading_accepted r numbers judged = (passed r numbers ∙ judged, numbers.1)
