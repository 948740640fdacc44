-- The month of the date that has a day number.
use Rattle.std.proofs.Common.{◌≡◌, ℕ, Bool, true, false, cond, Some, None, Ok, Err, Result, sym, subst, refl, ap, ◌∙◌}
use Rattle.std.specs.Result.{result_ok}
use Rattle.terms.specs.Answers.{AnswersBy}
use Rattle.terms.specs.declared.refusal.Refusal.{Refusal}
use Rattle.calendar.specs.Date.{digits_of, date_day_number}
use Rattle.calendar.specs.declared.date.Date.{Date}
use Rattle.calendar.proofs.DateDigits.{month_of_digits, numbered_by}
use Rattle.calendar.specs.Digits.{month_of_date, date_of_day_number}
use Rattle.calendar.proofs.NextDates.{only_date_of_day_number}

-- a date's digits are those that its day number leads to
month_is : (d : Date) (n : ℕ) → date_day_number d ≡ n → d.month ≡ month_of_date (date_of_day_number n)
month_is d n e = sym (month_of_digits d) ∙ ap month_of_date (only_date_of_day_number (digits_of d) n (numbered_by d (digits_of d) n refl e))

pub month_found : (within : Bool) (r : Result Date Refusal) (d : Date) (n : ℕ) → AnswersBy r within (λ x. date_day_number x ≡ n) 4 → result_ok r ≡ Some d → Some d.month ≡ cond within (Some (month_of_date (date_of_day_number n))) None
month_found true (Ok x) d n e found =
    let same : x ≡ d = cc in
    subst (λ y. Some y.month ≡ Some (month_of_date (date_of_day_number n))) same (ap Some (month_is x n e))
month_found true (Err f) d n e found = absurd e
month_found false (Ok x) d n e found = absurd e
month_found false (Err f) d n e found = absurd (cc)
