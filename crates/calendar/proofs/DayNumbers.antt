-- Day numbers: where they lie, and the day that has one. Assumes nothing.
use Rattle.std.proofs.Common.{◌≡◌, ℕ, ◌+◌, ◌<◌, ◌≤◌, ltb, Ok, Err, arith}
use Rattle.std.proofs.lemmas.Bool.{lt-ltb, le-ltb}
use Rattle.terms.specs.Answers.{AnswersBy}
use Rattle.terms.specs.declared.refusal.Refusal.TheVariants.{NoSuchDate}
use Rattle.terms.specs.RefusalNumbers.{no_such_date}
use Rattle.calendar.specs.Gregorian.{month_length, days_before_month, year_length, days_before_year, day_number, days_in_all}
use Rattle.calendar.specs.Date.{date_day_number, date_day_of_year}
use Rattle.calendar.specs.declared.date.Date.{Date}
use Rattle.calendar.proofs.DateAnswers.{accepted, refused_as_no_such_date}
use Rattle.calendar.proofs.Years.{year_length_by_four, days_before_year_is, days_before_next_year}
use Rattle.calendar.proofs.Months.{days_before_next_month, days_before_all_months, days_before_month_grows}
use Rattle.calendar.proofs.Days.{InCalendar, dated}

-- the days of a month end within the year
pub month_ends : (y m : ℕ) → 1 ≤ m → m ≤ 12 → days_before_month y m + month_length y m ≤ year_length y
month_ends y m low high =
    omega (arith, days_before_next_month y m low high, days_before_month_grows y (m + 1) 13 (omega arith), days_before_all_months y)

-- and those of a year within the calendar
pub year_ends : (y : ℕ) → 2001 ≤ y → y ≤ 2099 → days_before_year y + year_length y ≤ days_in_all
year_ends y low high =
    omega (arith, days_before_next_year y low, days_before_year_is (y + 1) (omega arith) (omega arith))

-- where a day lies in its year and in the calendar
pub record Placed (y m d : ℕ) : Type 0 where
  pub in_month : days_before_month y m + d ≤ days_before_month y m + month_length y m
  pub in_year : days_before_month y m + d ≤ year_length y
  pub short : year_length y ≤ 366
  pub number : day_number y m d < days_in_all

pub placed : {y m d : ℕ} → InCalendar y m d → Placed y m d
placed {y} {m} {d} h =
    let month = month_ends y m h.month_low h.month_high in
    let year = year_ends y h.year_low h.year_high in
    let length = year_length_by_four y h.year_low h.year_high in
    record { in_month = omega arith; in_year = omega arith; short = omega arith; number = omega arith }

-- every date's number is below the number of all days
pub number_below : (d : Date) → date_day_number d < days_in_all
number_below d = (placed (dated d)).number

-- a place in a year is one of 366
pub place_within : (d : Date) → (1 ≤ date_day_of_year d) × (date_day_of_year d ≤ 366)
place_within d = let within = dated d in let place = placed within in (omega arith, omega arith)

-- a date that has the number is the answer to a call that asks for it
pub found : (d : Date) (n : ℕ) → date_day_number d ≡ n → AnswersBy (Ok d) (ltb n days_in_all) (λ x. date_day_number x ≡ n) no_such_date
found d n e = accepted (λ x. date_day_number x ≡ n) no_such_date e (lt-ltb n days_in_all (omega (arith, number_below d)))

-- a number past all days has no date
pub past_all_days : (n : ℕ) (P : Date → Type 0) → days_in_all ≤ n → AnswersBy (Err NoSuchDate) (ltb n days_in_all) P no_such_date
past_all_days n P h = refused_as_no_such_date P (le-ltb n days_in_all h)
