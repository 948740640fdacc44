-- A date and the eight digits that show it. Assumes nothing.
use Rattle.std.proofs.Common.{◌≡◌, ℕ, T, Ok, sym, refl, ◌∙◌, arith}
use Rattle.terms.specs.Answers.{AnswersBy}
use Rattle.terms.specs.RefusalNumbers.{no_such_date}
use Rattle.calendar.specs.Digits.{year_of_date, month_of_date, day_of_month, is_date, day_number_of, HasDayNumber}
use Rattle.calendar.specs.Date.{digits_of, date_day_number}
use Rattle.calendar.specs.declared.date.Date.{Date}
use Rattle.calendar.proofs.DateAnswers.{accepted}
use Rattle.calendar.proofs.Days.{true_from_t, InCalendar, in_calendar, dated}

-- a date's digits show its year, month and day
pub year_of_digits : (d : Date) → year_of_date (digits_of d) ≡ d.year
year_of_digits d = let within = dated d in omega arith

pub month_of_digits : (d : Date) → month_of_date (digits_of d) ≡ d.month
month_of_digits d = let within = dated d in omega arith

pub day_of_digits : (d : Date) → day_of_month (digits_of d) ≡ d.day
day_of_digits d = let within = dated d in omega arith

-- a date's digits are those of a date, and have its number
pub digits_are_date : (d : Date) → T (is_date (digits_of d))
unfolding is_date
digits_are_date d = rw (year_of_digits d, month_of_digits d, day_of_digits d) d.real

pub number_of_digits : (d : Date) → date_day_number d ≡ day_number_of (digits_of d)
unfolding day_number_of
number_of_digits d = rw (year_of_digits d, month_of_digits d, day_of_digits d)

-- a date with these digits is the answer to a call that asks for it
pub found_by_digits : (d : Date) (n : ℕ) → digits_of d ≡ n → AnswersBy (Ok d) (is_date n) (λ x. digits_of x ≡ n) no_such_date
found_by_digits d n e = accepted (λ x. digits_of x ≡ n) no_such_date e (true_from_t (is_date n) (rw (sym e) (digits_are_date d)))

-- a number equal to a date's digits is that date, and the day of its number
pub numbered_by : (d : Date) (n k : ℕ) → n ≡ digits_of d → date_day_number d ≡ k → HasDayNumber n k
numbered_by d n k e number = rw e (digits_are_date d, sym (number_of_digits d) ∙ number)

-- the date that a number shows
pub date_shown : (n : ℕ) → T (is_date n) → Date
unfolding is_date
date_shown n real = record { year = year_of_date n; month = month_of_date n; day = day_of_month n; real = real }

pub digits_of_shown : (n : ℕ) (real : T (is_date n)) → digits_of (date_shown n real) ≡ n
unfolding is_date date_shown
digits_of_shown n real = omega arith

pub number_of_shown : (n : ℕ) (real : T (is_date n)) → date_day_number (date_shown n real) ≡ day_number_of n
unfolding is_date date_shown day_number_of
number_of_shown n real = refl

-- what a date shows lies within the limits
pub shown_in_calendar : (n : ℕ) → T (is_date n) → InCalendar (year_of_date n) (month_of_date n) (day_of_month n)
unfolding is_date
shown_in_calendar n real = in_calendar (year_of_date n) (month_of_date n) (day_of_month n) real
