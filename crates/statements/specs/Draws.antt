-- When a stage is drawn, and what it says then.
use Rattle.std.specs.Prelude.{◌≡◌, ℕ, ◌+◌, ◌<◌, ◌≤◌, [], ◌∷◌, is_some, Some, None, Ok, Err, Option, Result, ◌==◌, nat_lt, if◌then◌else◌}
use Rattle.std.specs.List.{range_with_len}
use Rattle.std.specs.Result.{IsOkAnd}
use Rattle.rules.specs.Figures.{load, remainder}
use Rattle.rules.specs.History.{History, Setting}
use Rattle.terms.specs.Refusal.{number_of, date_named}
use Rattle.terms.specs.declared.refusal.Refusal.{Refusal}
use Rattle.book.specs.Book.{InEveryCase}
use Rattle.book.specs.Days.{AreDaysOf, span_is_backwards, span_leaves_book, span_names_no_date}
use Rattle.estimators.specs.Meaning.{Meanings}
use Rattle.book.specs.Replies.{IsJudgedBy}
use Rattle.book.specs.declared.book.Book.{Book}
use Rattle.book.specs.declared.book.Days.{Days}
use Rattle.statements.specs.Spans.{span_days}
use Rattle.statements.specs.Sums.{SumsOf, remainder_over, retailer_over}
use Rattle.statements.specs.declared.statement.Span.{Span}
use Rattle.statements.specs.declared.statement.Statement.{Statement}
use Rattle.statements.specs.declared.sums.Sums.{Sums}
use Rattle.rules.specs.Calls.{date_of_day, first_refusal, first_day_without_load}
use Rattle.terms.specs.RefusalNumbers.{asked_day_without_load, end_not_allowed, list_too_short, no_such_date, outside_book}

-- the refusal of a draw over a span into a list of so many places, of which so many are wanted; none where it
-- is drawn: 14 where a day has no load, 15 where the list is too short
abbrev pub draw_refusal : Setting → History → Span → ℕ → ℕ → Option ℕ
draw_refusal s h span wanted places =
    first_refusal
    (record { number = no_such_date; holds = span_names_no_date span.first span.last }
    ∷ record { number = outside_book; holds = span_leaves_book s span.first span.last }
    ∷ record { number = end_not_allowed; holds = span_is_backwards span.first span.last }
    ∷ record { number = asked_day_without_load; holds = is_some (first_day_without_load s h (span_days s span)) }
    ∷ record { number = list_too_short; holds = nat_lt places wanted } ∷ [])

-- the day that a refused draw names, by its date: the first of the span that has no load
abbrev pub draw_named : Setting → History → Span → ℕ → Option ℕ
draw_named s h span n =
    if n == asked_day_without_load then date_of_day s (first_day_without_load s h (span_days s span)) else None

-- the part of both that speaks of loads, of n days from day d on
abbrev pub loads_refusal : Setting → History → ℕ → ℕ → Option ℕ
loads_refusal s h d n =
    if is_some (first_day_without_load s h (range_with_len d n)) then Some asked_day_without_load else None

abbrev pub loads_named : Setting → History → ℕ → ℕ → ℕ → Option ℕ
loads_named s h d n number = date_of_day s (first_day_without_load s h (range_with_len d n))

-- each day of a span has a load
abbrev pub HasLoads : Setting → History → Span → Type 0
HasLoads s h span = first_day_without_load s h (span_days s span) ≡ None

-- What the steps of a draw answer, in every case of the book.

-- some days of the book are judged by whether each has a load
pub record JudgesLoads (days : Days) (r : Result (Unit {0}) Refusal) (b : Book) (m : Meanings) : Type 0 where
  pub law :
      InEveryCase b m
      (λ c. days.first + days.count ≤ c.setting.days
      → IsJudgedBy (loads_refusal c.setting c.history days.first days.count)
      (loads_named c.setting c.history days.first days.count) (λ _. Unit {0}) r)

-- a draw is judged, and gives the days of its span, each with a load
pub record JudgesDraw
    (span : Span) (wanted places : ℕ) (r : Result Days Refusal) (b : Book) (m : Meanings)
    : Type 0 where
  pub law :
      InEveryCase b m
      (λ c. IsJudgedBy (draw_refusal c.setting c.history span wanted places) (draw_named c.setting c.history span)
      (λ days. AreDaysOf c.setting span.first span.last days × HasLoads c.setting c.history span) r)

-- a draw is judged, and gives the sums of its span
pub record GivesSums
    (span : Span) (wanted places : ℕ) (r : Result Sums Refusal) (b : Book) (m : Meanings)
    : Type 0 where
  pub law :
      InEveryCase b m
      (λ c. IsJudgedBy (draw_refusal c.setting c.history span wanted places) (draw_named c.setting c.history span)
      (SumsOf c.setting c.history span) r)

-- what is left to the host retailer on a day of the book with a load
pub record TellsRemainder (day : ℕ) (r : Result ℕ Refusal) (b : Book) (m : Meanings) : Type 0 where
  pub law :
      InEveryCase b m
      (λ c. (n : ℕ) → day < c.setting.days → load c.setting c.history day ≡ Some n
      → r ≡ Ok (remainder c.setting c.history day n))

-- a retailer's sum over the days of a span, beside any estimator
pub record SumsRetailer (retailer : ℕ) (days : Days) (r : Result ℕ Refusal) (b : Book) : Type 0 where
  pub law :
      (m : Meanings) → InEveryCase b m
      (λ c. (span : Span) → AreDaysOf c.setting span.first span.last days
      → r ≡ Ok (retailer_over c.setting c.history retailer span))

-- the host remainder's, where each day has a load
pub record SumsRemainder (days : Days) (r : Result ℕ Refusal) (b : Book) (m : Meanings) : Type 0 where
  pub law :
      InEveryCase b m
      (λ c. (span : Span) → AreDaysOf c.setting span.first span.last days → HasLoads c.setting c.history span
      → r ≡ Ok (remainder_over c.setting c.history span))

-- and all of them
pub record SumsAll (days : Days) (r : Result Sums Refusal) (b : Book) (m : Meanings) : Type 0 where
  pub law :
      InEveryCase b m
      (λ c. (span : Span) → AreDaysOf c.setting span.first span.last days → HasLoads c.setting c.history span
      → IsOkAnd r (SumsOf c.setting c.history span))

-- What a draw answers.

-- a stage is drawn: in every case of the book nothing refuses the draw, and the sums are those of the span
pub record IsDrawn (span : Span) (wanted places : ℕ) (b : Book) (m : Meanings) (x : Statement) : Type 0 where
  pub same_span : x.span ≡ span
  pub law :
      InEveryCase b m
      (λ c. (draw_refusal c.setting c.history span wanted places ≡ None) × SumsOf c.setting c.history span x.sums)

-- it is refused: in every case of the book by the first condition that holds, with the day that it names
pub record IsDrawRefused (span : Span) (wanted places : ℕ) (b : Book) (m : Meanings) (e : Refusal) : Type 0 where
  pub law :
      InEveryCase b m
      (λ c. (draw_refusal c.setting c.history span wanted places ≡ Some (number_of e))
      × (date_named e ≡ draw_named c.setting c.history span (number_of e)))

-- the one or the other, given what a value says and why an error refuses
abbrev pub DrawsByLaw :
    {X Y : Type 0} → (X → Statement) → (Y → Refusal) → Span → ℕ → ℕ → Book → Meanings → Result X Y → Type 0
DrawsByLaw says why span wanted places b m (Ok x) = IsDrawn span wanted places b m (says x)
DrawsByLaw says why span wanted places b m (Err e) = IsDrawRefused span wanted places b m (why e)
