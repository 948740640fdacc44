-- The day of its year of a date, from its eight digits.
use Rattle.std.proofs.Common.{◌≡◌, ℕ, Bool, true, false, cond, T, leb, Ok, Err, Result, sym, refl, ap, ◌∙◌, arith, le→leb}
use Rattle.terms.specs.Answers.{AnswersBy}
use Rattle.calendar.specs.Date.{digits_of, date_day_of_year}
use Rattle.calendar.specs.declared.date.Date.{Date}
use Rattle.calendar.proofs.Days.{dated}
use Rattle.calendar.proofs.DayNumbers.{placed}
use Rattle.calendar.proofs.DateDigits.{year_of_digits, month_of_digits, day_of_digits}
use Rattle.estimates.specs.Observations.{day_of_year_within}
use Rattle.estimators.proofs.Tables.{both}
use Rattle.degreedays.specs.Reckoning.{day_of_year_of}
use Rattle.degreedays.specs.declared.word.Word.{Word}
use Rattle.degreedays.specs.declared.word.Word.TheVariants as word

day_of_year_is : (d : Date) (n : ℕ) → digits_of d ≡ n → date_day_of_year d ≡ day_of_year_of n
day_of_year_is d n e = rw (sym e) (rw (year_of_digits d, month_of_digits d, day_of_digits d) refl)

pub day_of_year_found : (real : Bool) (d : Date) (n p : ℕ) → p ≡ date_day_of_year d
    → AnswersBy (Ok d) real (λ x. digits_of x ≡ n) 4
    → ◌≡◌ {A = Result ℕ Word} (Ok p) (cond real (Ok (day_of_year_of n)) (Err word.Date))
day_of_year_found true d n p e found = ap Ok (e ∙ day_of_year_is d n found)
day_of_year_found false d n p e found = absurd found

pub day_of_year_bounds : (d : Date) (p : ℕ) → p ≡ date_day_of_year d → T (day_of_year_within p)
day_of_year_bounds d p e =
    let calendar = dated d in
    let place = placed calendar in
    both (leb 1 p) (leb p 366) (le→leb 1 p (omega arith)) (le→leb p 366 (omega arith))
