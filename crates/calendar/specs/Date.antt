-- What a date says, and how dates, their digits and their day numbers go together.
use Rattle.std.specs.Prelude.{◌≡◌, ℕ, ◌+◌, ◌<◌, T}
use Rattle.calendar.specs.Gregorian as gregorian
use Rattle.calendar.specs.Digits as digits
use Rattle.calendar.specs.declared.date.Date.{Date}

-- the eight digits of a date
abbrev pub digits_of : Date → ℕ
digits_of d = digits.digits d.year d.month d.day

-- the days from 1 January 2001 to a date
abbrev pub date_day_number : Date → ℕ
date_day_number d = gregorian.day_number d.year d.month d.day

-- the place of a date in its year
abbrev pub date_day_of_year : Date → ℕ
date_day_of_year d = gregorian.day_of_year d.year d.month d.day

-- so many days there are, and their numbers follow the dates and the eight digits that show them
pub record DayNumbersFollowDates (days : ℕ) : Type 0 where
  -- the days of all years before 2100, and every date's number is one of theirs
  pub days_counted : days ≡ gregorian.days_before_year 2100
  pub number_below : (d : Date) → date_day_number d < days
  -- equal digits or equal day numbers: the same date
  pub same_digits : (a b : Date) → digits_of a ≡ digits_of b → a ≡ b
  pub same_number : (a b : Date) → date_day_number a ≡ date_day_number b → a ≡ b
  -- larger digits: a larger day number
  pub later_number : (a b : Date) → digits_of a < digits_of b → date_day_number a < date_day_number b
  -- a date's digits are a date, with its day number
  pub digits_are_date : (d : Date) → T (digits.is_date (digits_of d))
  pub number_of_digits : (d : Date) → date_day_number d ≡ digits.day_number_of (digits_of d)
  -- the same in plain numbers
  pub day_number_below : (n : ℕ) → T (digits.is_date n) → digits.day_number_of n < days
  pub same_day_number :
      (a b : ℕ) → T (digits.is_date a) → T (digits.is_date b)
      → digits.day_number_of a ≡ digits.day_number_of b → a ≡ b
  pub later_day_number :
      (a b : ℕ) → T (digits.is_date a) → T (digits.is_date b)
      → a < b → digits.day_number_of a < digits.day_number_of b
  -- the date after a date has the next number
  pub date_after_date :
      (n : ℕ) → T (digits.is_date n) → digits.day_number_of n + 1 < days
      → digits.HasDayNumber (digits.date_after n) (digits.day_number_of n + 1)
  -- each number has a date, and each date's number leads back to it
  pub day_number_has_date : (k : ℕ) → k < days → digits.HasDayNumber (digits.date_of_day_number k) k
  pub day_number_leads_back : (n : ℕ) → T (digits.is_date n) → digits.date_of_day_number (digits.day_number_of n) ≡ n
