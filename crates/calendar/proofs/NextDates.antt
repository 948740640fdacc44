-- The date after a date has the next number, so that day after day every number below the last is reached. Assumes nothing.
use Rattle.std.proofs.Common.{◌≡◌, ℕ, zero, suc, ◌+◌, ◌<◌, ◌≤◌, cond, T, ltb, Result, sym, refl, ap, ◌∙◌, arith}
use Rattle.std.proofs.lemmas.Bool.{cond_both, ltb-true, ltb-false}
use Rattle.terms.specs.Answers.{Answers, AnswersBy}
use Rattle.terms.specs.RefusalNumbers.{no_such_date}
use Rattle.terms.specs.declared.refusal.Refusal.{Refusal}
use Rattle.calendar.specs.Gregorian.{is_leap, month_lengths, month_length, day_exists, days_before_month, days_before_year, day_number, days_in_all}
use Rattle.calendar.specs.Digits.{is_date, day_number_of, date_after, date_of_day_number, digits, HasDayNumber}
use Rattle.calendar.specs.Date.{digits_of, date_day_number}
use Rattle.calendar.specs.declared.date.Date.{Date}
use Rattle.calendar.proofs.DateAnswers.{weakened}
use Rattle.calendar.proofs.Days.{dated, day_exists_from}
use Rattle.calendar.proofs.Months.{month_length_at_least, days_before_next_month, days_before_january, december_ends}
use Rattle.calendar.proofs.Order.{same_day_number, day_number_below}
use Rattle.calendar.proofs.DateDigits.{date_shown, digits_of_shown, number_of_shown, numbered_by, year_of_digits, month_of_digits, day_of_digits}
use Rattle.calendar.proofs.Years.{days_before_next_year, days_before_year_is}

-- a day that exists and has the number k is the date of that number
numbered : (y m d k : ℕ) → T (day_exists y m d) → day_number y m d ≡ k → (n : ℕ) → n ≡ digits y m d → HasDayNumber n k
numbered y m d k real number n e = numbered_by (record { year = y; month = m; day = d; real = real }) n k e number

-- after a date that is not the last comes the date of the next number
date_after_day : (d : Date) → date_day_number d + 1 < days_in_all → HasDayNumber (date_after (digits_of d)) (date_day_number d + 1)
unfolding date_after
date_after_day d h =
    let within = dated d in
    rw (year_of_digits d, month_of_digits d, day_of_digits d)
    (cond_both (ltb d.day (month_length d.year d.month)) (digits_of d + 1)
    (cond (ltb d.month 12) (digits d.year (d.month + 1) 1) (digits (d.year + 1) 1 1))
    (λ n. HasDayNumber n (date_day_number d + 1))
    (λ inside.
    let more : d.day < month_length d.year d.month = ltb-true d.day (month_length d.year d.month) inside in
    numbered d.year d.month (d.day + 1) (date_day_number d + 1)
    (day_exists_from d.year d.month (d.day + 1) (omega arith) (omega arith) (omega arith) (omega arith) (omega arith) (omega arith))
    (omega arith) (digits_of d + 1) (omega arith))
    (λ ended.
    let last : month_length d.year d.month ≤ d.day = ltb-false d.day (month_length d.year d.month) ended in
    cond_both (ltb d.month 12) (digits d.year (d.month + 1) 1) (digits (d.year + 1) 1 1)
    (λ n. HasDayNumber n (date_day_number d + 1))
    (λ more.
    let before_december : d.month < 12 = ltb-true d.month 12 more in
    numbered d.year (d.month + 1) 1 (date_day_number d + 1)
    (day_exists_from d.year (d.month + 1) 1 (omega arith) (omega arith) (omega arith) (omega arith) (omega arith) (omega (arith, month_length_at_least)))
    (omega (arith, days_before_next_month)) (digits d.year (d.month + 1) 1) refl)
    (λ none.
    let in_december : 12 ≤ d.month = ltb-false d.month 12 none in
    let december = december_ends d.year d.month (omega arith) in
    let year = days_before_next_year d.year within.year_low in
    let closed = days_before_year_is (d.year + 1) (omega arith) (omega arith) in
    numbered (d.year + 1) 1 1 (date_day_number d + 1)
    (day_exists_from (d.year + 1) 1 1 (omega arith) (omega arith) (omega arith) (omega arith) (omega arith) (omega (arith, month_length_at_least)))
    (omega (arith, days_before_january)) (digits (d.year + 1) 1 1) refl)))

-- the same in plain numbers
pub date_after_date : (n : ℕ) → T (is_date n) → day_number_of n + 1 < days_in_all → HasDayNumber (date_after n) (day_number_of n + 1)
date_after_date n real h =
    let same_digits = digits_of_shown n real in
    let same_number = number_of_shown n real in
    rw (same_number, same_digits) at (date_after_day (date_shown n real) (omega arith))

first_date : HasDayNumber 20010101 0
unfolding is_date day_exists day_number_of days_before_year days_before_month month_length month_lengths is_leap
first_date = (tt, refl)

-- every number below that of all days is the number of one date
pub day_number_has_date : (k : ℕ) → k < days_in_all → HasDayNumber (date_of_day_number k) k
unfolding date_of_day_number
day_number_has_date zero h = first_date
day_number_has_date (suc k) h =
    let today = day_number_has_date k (omega arith) in
    let tomorrow = date_after_date (date_of_day_number k) today.0 (omega arith) in
    (tomorrow.0, omega arith)

-- a date's own number leads back to it
pub day_number_leads_back : (n : ℕ) → T (is_date n) → date_of_day_number (day_number_of n) ≡ n
day_number_leads_back n real =
    let there = day_number_has_date (day_number_of n) (day_number_below n real) in
    same_day_number (date_of_day_number (day_number_of n)) n there.0 real there.1

-- no other date has that number
pub only_date_of_day_number : (n k : ℕ) → HasDayNumber n k → n ≡ date_of_day_number k
only_date_of_day_number n k here = sym (day_number_leads_back n here.0) ∙ ap date_of_day_number here.1

-- so a call that answers by a date of that number answers by that one
pub answers_date_of_day_number : (r : Result ℕ Refusal) (k : ℕ) → AnswersBy r (ltb k days_in_all) (λ n. HasDayNumber n k) no_such_date → Answers r (ltb k days_in_all) (date_of_day_number k) no_such_date
answers_date_of_day_number r k =
    weakened r (ltb k days_in_all) (λ n. HasDayNumber n k) (λ n. n ≡ date_of_day_number k) no_such_date (λ n. only_date_of_day_number n k)
