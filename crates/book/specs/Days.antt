-- The days of a book: when a span of them is refused, and what is asked of one by its place.
use Rattle.std.specs.Prelude.{◌≡◌, ℕ, ◌+◌, ◌-◌, ◌≤◌, Bool, not, ◌&&◌, [], ◌∷◌, is_some, Some, None, Option, Result, ◌==◌, nat_lt, if◌then◌else◌}
use Rattle.std.specs.Option.{unwrap_or}
use Rattle.calendar.specs.Digits.{day_number_of, is_date, date_of_day_number}
use Rattle.rules.specs.Figures.{load, retailer_sum}
use Rattle.rules.specs.History.{History, Setting}
use Rattle.terms.specs.declared.refusal.Refusal.{Refusal}
use Rattle.book.specs.Book.{InEveryCase}
use Rattle.estimators.specs.Meaning.{Meanings}
use Rattle.book.specs.Replies.{IsJudgedBy}
use Rattle.book.specs.declared.book.Book.{Book}
use Rattle.book.specs.declared.book.Days.{Days}
use Rattle.rules.specs.Calls.{first_refusal, is_in_book, day_of_date}
use Rattle.sheet.specs.Account.{account}
use Rattle.sheet.specs.declared.account.Account.{Account}
use Rattle.terms.specs.RefusalNumbers.{asked_day_without_load, end_not_allowed, no_such_date, outside_book}

-- 4: the first date or the last does not exist
abbrev pub span_names_no_date : ℕ → ℕ → Bool
span_names_no_date first last = not (is_date first && is_date last)

-- 5: the first date or the last lies outside the book
abbrev pub span_leaves_book : Setting → ℕ → ℕ → Bool
span_leaves_book s first last = not (is_in_book s 0 first && is_in_book s 0 last)

-- 10: the last date is before the first
abbrev pub span_is_backwards : ℕ → ℕ → Bool
span_is_backwards first last = nat_lt (day_number_of last) (day_number_of first)

-- the refusal of the days from a first date to a last one, whatever is asked of them
unfoldable pub days_refusal : Setting → ℕ → ℕ → Option ℕ
days_refusal s first last =
    first_refusal
    (record { number = no_such_date; holds = span_names_no_date first last }
    ∷ record { number = outside_book; holds = span_leaves_book s first last }
    ∷ record { number = end_not_allowed; holds = span_is_backwards first last } ∷ [])

-- a refusal that names no day
abbrev pub names_none : ℕ → Option ℕ
names_none n = None

-- how many days there are from a first date to a last one, the last included
abbrev pub day_count : ℕ → ℕ → ℕ
day_count first last = day_number_of last + 1 - day_number_of first

-- days are those from a first date to a last one, and lie in the book
pub record AreDaysOf (s : Setting) (first_date last_date : ℕ) (days : Days) : Type 0 where
  pub first : days.first ≡ day_of_date s first_date
  pub count : days.count ≡ day_count first_date last_date
  pub within : day_of_date s first_date + day_count first_date last_date ≤ s.days

-- the refusal of a question about a day: 5 where the book has no such day
abbrev pub day_refusal : Setting → ℕ → Option ℕ
day_refusal s day = first_refusal (record { number = outside_book; holds = not (nat_lt day s.days) } ∷ [])

-- the refusal of an account: also 14 where the day has no load, under which its date is named
abbrev pub account_refusal : Setting → History → ℕ → Option ℕ
account_refusal s h day =
    first_refusal
    (record { number = outside_book; holds = not (nat_lt day s.days) }
    ∷ record { number = asked_day_without_load; holds = not (is_some (load s h day)) } ∷ [])

abbrev pub account_named : Setting → ℕ → ℕ → Option ℕ
account_named s day n =
    if n == asked_day_without_load then Some (date_of_day_number (s.first + day)) else None

-- What a book tells, in every case: of an account beside an estimator that means m, of days and sums beside any.

-- the days from a first date to a last one
pub record TellsDays (first last : ℕ) (r : Result Days Refusal) (b : Book) : Type 0 where
  pub law :
      (m : Meanings) → InEveryCase b m
      (λ c. IsJudgedBy (days_refusal c.setting first last) names_none (AreDaysOf c.setting first last) r)

-- a day's account
pub record TellsAccount (day : ℕ) (r : Result Account Refusal) (b : Book) (m : Meanings) : Type 0 where
  pub law :
      InEveryCase b m
      (λ c. IsJudgedBy (account_refusal c.setting c.history day) (account_named c.setting day)
      (λ x. x ≡ account c.setting c.history day (unwrap_or (load c.setting c.history day) 0)) r)

-- what the figures of a retailer's points come to on a day
pub record TellsSum (retailer day : ℕ) (r : Result ℕ Refusal) (b : Book) : Type 0 where
  pub law :
      (m : Meanings) → InEveryCase b m
      (λ c. IsJudgedBy (day_refusal c.setting day) names_none
      (λ x. x ≡ retailer_sum c.setting c.history retailer day) r)
