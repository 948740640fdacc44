-- The law over every run of calls, whole: what holds of the sheet at every moment, what a call can move, and
-- how calls are answered.
use Rattle.std.specs.Prelude.{◌≡◌, ℕ, ◌+◌, ◌-◌, ◌<◌, ◌≤◌, true, false, List, ◌∷◌, ◌++◌, map, length, take, ◌⊎◌, Some, Result, ◌≢◌, slice_index}
use Rattle.std.specs.Option.{unwrap_or}
use Rattle.rules.specs.Figures.{estimate, estimates, excess, figure, load, remainder, share_on, supplied_sum, is_active, is_estimated, supplied_figure}
use Rattle.rules.specs.History.{History, Setting, covering_reading}
use Rattle.rules.specs.declared.call.Call.{Call}
use Rattle.rules.specs.declared.call.Call.TheVariants.{Enrol, EnterGate, EnterInterval, EnterDegreeDays, EnterReading, AskFigure, AskDay, AskRetailer}
use Rattle.rules.specs.declared.entry.Reading.{Reading}
use Rattle.allocation.specs.Sharing.{shares}
use Rattle.terms.specs.declared.refusal.Refusal.{Refusal}
use Rattle.book.specs.Book.{IsBookOf}
use Rattle.book.specs.Case.{Case, case_after_calls}
use Rattle.estimators.specs.Meaning.{Meanings}
use Rattle.book.specs.Replies.{due_replies, given_reply, history_after_call, history_after_calls}
use Rattle.book.specs.declared.book.Book.{Book}
use Rattle.book.specs.declared.serve.Answer.{Answer}
use Rattle.rules.specs.FigureLaws.{retailers_sum, SameDay, is_scaled}
use Rattle.rules.specs.Calls.{day_of_date}
use Rattle.rules.specs.Readings.{are_joined}

-- the figures of every point and day, in a history
pub record Moment (s : Setting) (h : History) : Type 0 where
  -- a point's day that its accepted readings cover shows the share of the last one covering it, by the latest loads
  pub covered_day : (p d : ℕ) (r : Reading) → covering_reading h p d ≡ Some r → figure s h p d ≡ share_on s h d r
  -- supplied energy is never rescaled: whatever an estimator means, supplied figures are the same
  pub supplied_stands :
      (t : Setting) (p d : ℕ) → s.unaccounted ≡ t.unaccounted → supplied_figure s h p d ≡ supplied_figure t h p d
  -- any other day from the start day on shows the latest estimate, none counting 0
  pub estimated_day :
      (p d : ℕ) → 1 ≤ p → p ≤ s.points → is_estimated h p d ≡ true → is_scaled s h d ≡ false
      → figure s h p d ≡ unwrap_or (estimate s h p d) 0
  -- scaled where supplied energy and estimates exceed the load: what the load leaves is shared over the estimates
  pub scaled_day :
      (p d : ℕ) → is_estimated h p d ≡ true → is_scaled s h d ≡ true
      → figure s h p d ≡ slice_index (shares (unwrap_or (load s h d) 0 - supplied_sum s h d) (estimates s h d)) (p - 1)
  -- until enrolled and before its start day a point shows 0
  pub not_begun : (p d : ℕ) → 1 ≤ p → is_active h p d ≡ false → figure s h p d ≡ 0
  -- on a day with a load the retailers' sums and the remainder come to the load and the excess
  pub balance : (d n : ℕ) → load s h d ≡ Some n → retailers_sum s h d + remainder s h d n ≡ n + excess s h d n
  -- and there is never a remainder beside an excess
  pub never_both : (d n : ℕ) → load s h d ≡ Some n → 0 < remainder s h d n → 0 < excess s h d n → ⊥

-- a gate day or an interval energy moves only its day and days that a held reading joins to it; degree days
-- only that day's estimated figures; a reading only the days that it covers, and there only its point and
-- estimated figures; an enrolment only days from its start; a question nothing
abbrev pub Moves : Setting → History → Call → Type 0
Moves s h (Enrol point retailer start) =
    (d : ℕ) → d < day_of_date s start → SameDay s h (history_after_call s h (Enrol point retailer start)) d
Moves s h (EnterGate date energy_in energy_out) =
    (d : ℕ) → (d ≢ day_of_date s date) → are_joined h d (day_of_date s date) ≡ false
    → SameDay s h (history_after_call s h (EnterGate date energy_in energy_out)) d
Moves s h (EnterInterval date meter energy) =
    (d : ℕ) → (d ≢ day_of_date s date) → are_joined h d (day_of_date s date) ≡ false
    → SameDay s h (history_after_call s h (EnterInterval date meter energy)) d
Moves s h (EnterDegreeDays date count) =
    ((d : ℕ) → (d ≢ day_of_date s date) → SameDay s h (history_after_call s h (EnterDegreeDays date count)) d)
    × ((p : ℕ) → 1 ≤ p → is_estimated h p (day_of_date s date) ≡ false
    → figure s (history_after_call s h (EnterDegreeDays date count)) p (day_of_date s date)
    ≡ figure s h p (day_of_date s date))
Moves s h (EnterReading delivery) =
    ((d : ℕ) → (d < day_of_date s delivery.start) ⊎ (day_of_date s delivery.end ≤ d)
    → SameDay s h (history_after_call s h (EnterReading delivery)) d)
    × ((p d : ℕ) → 1 ≤ p → (p ≢ delivery.point) → is_estimated h p d ≡ false
    → figure s (history_after_call s h (EnterReading delivery)) p d ≡ figure s h p d)
Moves s h (AskFigure point date) = history_after_call s h (AskFigure point date) ≡ h
Moves s h (AskDay date) = history_after_call s h (AskDay date) ≡ h
Moves s h (AskRetailer retailer date) = history_after_call s h (AskRetailer retailer date) ≡ h

-- A book b beside an estimator that means m has served calls after case c, and given these answers.
pub record Law
    (c : Case) (calls : List Call) (answers : List (Result Answer Refusal)) (b : Book) (m : Meanings)
    : Type 0 where
  -- each call is answered or refused as the rules say of the calls accepted before it, by the first condition
  -- that holds
  pub answered : map given_reply (take (length calls) answers) ≡ due_replies c.setting c.history calls
  -- lists, figures and estimator are what the rules make of the calls accepted so far, and so is the answer to
  -- any question
  pub follows : IsBookOf (case_after_calls c calls) b m
  -- and so they were at every moment, after the calls before it
  pub moments :
      (before later : List Call) → calls ≡ before ++ later
      → Moment c.setting (history_after_calls c.setting c.history before)
  -- each call moved no more than it may
  pub moves :
      (before : List Call) (call : Call) (later : List Call) → calls ≡ before ++ (call ∷ later)
      → Moves c.setting (history_after_calls c.setting c.history before) call
