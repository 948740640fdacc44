-- The day that a date gives, and the date that a day gives. Assumes nothing.
use Rattle.std.proofs.Common.{◌≡◌, ℕ, ◌-◌, Bool, true, false, cond, not, is_some, Some, None, Ok, Result, sym, refl, ap, ◌∙◌}
use Rattle.std.specs.Bool.{MatchBool}
use Rattle.calendar.specs.Digits.{day_number_of, is_date, HasDayNumber, date_of_day_number}
use Rattle.rules.specs.Calls.{refusal, is_in_book, day_of_date}
use Rattle.rules.specs.Figures as figures
use Rattle.rules.specs.History.{History, Setting}
use Rattle.rules.specs.declared.call.Call.TheVariants.{AskDay}
use Rattle.terms.specs.Answers.{AnswersBy, accepted_since}
use Rattle.terms.specs.declared.refusal.Refusal.{Refusal}
use Rattle.ledger.specs.Ledger.{IsLedgerOf}
use Rattle.ledger.specs.Opening.{JudgesDay, has_day_number}
use Rattle.ledger.specs.declared.ledger.Ledger.{Ledger}
use Rattle.calendar.proofs.NextDates.{day_number_leads_back}

-- the date that a day number leads to
pub date_found : (r : Result ℕ Refusal) (n k : ℕ) (ok : Bool) → r ≡ Ok n
    → AnswersBy r ok (λ m. HasDayNumber m k) 4 → n ≡ date_of_day_number k
date_found r n k ok was answer =
    let numbered = (accepted_since n ok (λ m. HasDayNumber m k) 4 (rw was at answer)).1 in
    sym (day_number_leads_back n numbered.0) ∙ ap date_of_day_number numbered.1

given_first : {P Q : Type 0} (b : Bool) → (Q → ⊥) → MatchBool b P Q → (b ≡ true) × P
given_first true never holds = (refl, holds)
given_first false never holds = absurd (never holds)

-- the day that a date gave is its place in the book
pub day_given : {s : Setting} {h : History} {l : Ledger} (date day : ℕ) → IsLedgerOf s h l
    → JudgesDay l.opening date (Ok day)
    → (is_date date ≡ true) × (is_in_book s 0 date ≡ true) × (day ≡ day_of_date s date)
day_given {s} {h} {l} date day f answers =
    let real = given_first (is_date date) (λ none. none) answers in
    let inside = accepted_since day (has_day_number l.opening 0 (day_number_of date)) (λ n. n ≡ day_number_of date - l.opening.first) 5 real.1 in
    (real.0, rw (← f.first, ← f.days) inside.0, rw (← f.first) inside.1)

-- the refusal of a question about a day of the book, by whether it has a load
pub day_refused : (s : Setting) (h : History) (date : ℕ) (b : Bool) → is_date date ≡ true
    → is_in_book s 0 date ≡ true → is_some (figures.load s h (day_of_date s date)) ≡ b
    → refusal s h (AskDay date) ≡ cond (not b) (Some 14) None
day_refused s h date b real inside loaded = λ i. cond (not (real i)) (Some 4) (cond (not (inside i)) (Some 5) (cond (not (loaded i)) (Some 14) None))
