-- What holds at every moment, and what a call can move. Assumes nothing.
use Rattle.std.proofs.Common.{◌≡◌, ℕ, ◌<◌, ◌≤◌, false, eqb, ltb, leb, ◌⊎◌, ◌∷◌, Some, None, Option, refl, inl, inr}
use Rattle.std.proofs.lemmas.Bool.{and_left, and_right, le-ltb, lt-leb}
use Rattle.rules.specs.Calls.{reading_of, refusal, IsLawful, day_of_date}
use Rattle.rules.specs.Figures.{figure}
use Rattle.rules.specs.History.{History, Setting, covers}
use Rattle.rules.specs.declared.call.Call.{Call}
use Rattle.rules.specs.declared.call.Call.TheVariants.{Enrol, EnterGate, EnterInterval, EnterDegreeDays, EnterReading, AskFigure, AskDay, AskRetailer}
use Rattle.rules.specs.declared.entry.Entry.{Entry}
use Rattle.rules.specs.declared.entry.Entry.TheVariants.{DegreeDaysEntered, Enrolled, GateEntered, IntervalEntered, ReadingTaken}
use Rattle.rules.specs.declared.entry.Reading.{Reading}
use Rattle.book.specs.Law.{Moment, Moves}
use Rattle.book.specs.Replies.{lengthened_history}
use Rattle.book.proofs.Questions.{asked_stays}
use Rattle.rules.proofs.Balance.{balances, supplied_any_estimator, supplied_shows, retailers_balance, shows_estimate, shows_share}
use Rattle.rules.proofs.MovedDays.{enrolment_moves, figure_before, gate_moves_joined, interval_moves_joined, count_elsewhere, count_here, reading_elsewhere, reading_others}
use Rattle.rules.specs.FigureLaws.{SameDay}

pub moment : (s : Setting) (h : History) → IsLawful s h → Moment s h
moment s h lawful = record {
  covered_day = supplied_shows s h;
  supplied_stands = λ t p d same. supplied_any_estimator s t h p d same;
  estimated_day = shows_estimate s h;
  scaled_day = shows_share s h;
  not_begun = λ p d low none. figure_before s h p d lawful low none;
  balance = λ d n loaded. retailers_balance s h d n lawful loaded;
  never_both = λ d n loaded. (balances s h d n loaded).never_both;
}

-- a day is told the same by the same history
same_day : (s : Setting) (h : History) (d : ℕ) → SameDay s h h d
same_day s h d = record {
  load_stands = refl;
  figures_stand = λ p. refl;
  supplied_stands = refl;
  generated_stands = refl;
  remainder_stands = λ n. refl;
  excess_stands = λ n. refl;
  missing_stands = refl;
  retailers_stand = λ k. refl;
}

-- what holds of a history and of the longer one holds after an entry, refused or not
either : (P : History → Type 0) (h : History) (e : Entry) (o : Option ℕ) → P h → P (e ∷ h) → P (lengthened_history o (Some e) h)
either P h e None before longer = longer
either P h e (Some n) before longer = before

-- a reading covers no day before its start, nor any from its end on
not_covered_outside : (r : Reading) (d : ℕ) → (d < r.start) ⊎ (r.end ≤ d) → covers r r.point d ≡ false
not_covered_outside r d (inl before) = and_right (eqb r.point r.point) _ (and_left (leb r.start d) (ltb d r.end) (lt-leb r.start d before))
not_covered_outside r d (inr after) = and_right (eqb r.point r.point) _ (and_right (leb r.start d) (ltb d r.end) (le-ltb d r.end after))

pub moves : (s : Setting) (h : History) (c : Call) → IsLawful s h → Moves s h c
moves s h (Enrol point retailer start) lawful = λ d before. enrolled (refusal s h (Enrol point retailer start)) refl d before
  where
    enrolled : (o : Option ℕ) → refusal s h (Enrol point retailer start) ≡ o → (d : ℕ) → d < day_of_date s start → SameDay s h (lengthened_history o (Some (Enrolled point (record { retailer = retailer; start = day_of_date s start }))) h) d
    enrolled (Some n) refused d before = same_day s h d
    enrolled None accepted d before = enrolment_moves s h point d (record { retailer = retailer; start = day_of_date s start }) (lawful, (Enrol point retailer start, accepted, refl)) before
moves s h (EnterGate date energy_in energy_out) lawful = λ d other apart.
    either (λ x. SameDay s h x d) h (GateEntered (day_of_date s date) (record { energy_in = energy_in; energy_out = energy_out })) (refusal s h (EnterGate date energy_in energy_out)) (same_day s h d)
    (gate_moves_joined s h (day_of_date s date) d (record { energy_in = energy_in; energy_out = energy_out }) lawful other apart)
moves s h (EnterInterval date meter energy) lawful = λ d other apart.
    either (λ x. SameDay s h x d) h (IntervalEntered (day_of_date s date) meter energy) (refusal s h (EnterInterval date meter energy)) (same_day s h d)
    (interval_moves_joined s h (day_of_date s date) d meter energy lawful other apart)
moves s h (EnterDegreeDays date count) lawful = (
  λ d other. either (λ x. SameDay s h x d) h (DegreeDaysEntered (day_of_date s date) count) (refusal s h (EnterDegreeDays date count)) (same_day s h d) (count_elsewhere s h (day_of_date s date) d count other),
  λ p low none.
      either (λ x. figure s x p (day_of_date s date) ≡ figure s h p (day_of_date s date)) h (DegreeDaysEntered (day_of_date s date) count) (refusal s h (EnterDegreeDays date count)) refl (count_here s h (day_of_date s date) p count low none),
)
moves s h (EnterReading delivery) lawful =
    let r : Reading = reading_of s delivery in (
      λ d outside.
          either (λ x. SameDay s h x d) h (ReadingTaken r) (refusal s h (EnterReading delivery)) (same_day s h d) (reading_elsewhere s h r d (not_covered_outside r d outside)),
      λ p d low other none.
          either (λ x. figure s x p d ≡ figure s h p d) h (ReadingTaken r) (refusal s h (EnterReading delivery)) refl (reading_others s h r p d low other none),
    )
moves s h (AskFigure point date) lawful = asked_stays h (refusal s h (AskFigure point date))
moves s h (AskDay date) lawful = asked_stays h (refusal s h (AskDay date))
moves s h (AskRetailer retailer date) lawful = asked_stays h (refusal s h (AskRetailer retailer date))
