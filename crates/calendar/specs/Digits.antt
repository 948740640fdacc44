-- A date as a number of eight digits, year first.
use Rattle.std.specs.Prelude.{◌≡◌, ℕ, zero, suc, ◌+◌, ◌*◌, ◌/◌, ◌%◌, Bool, if◌then◌else◌, T, nat_lt}
use Rattle.calendar.specs.Gregorian.{day_exists, month_length, day_number}

-- the eight digits of a year, month and day
abbrev pub digits : ℕ → ℕ → ℕ → ℕ
digits y m d = 10000 * y + 100 * m + d

-- the year, the month and the day of the month that eight digits show
abbrev pub year_of_date : ℕ → ℕ
year_of_date n = n / 10000

abbrev pub month_of_date : ℕ → ℕ
month_of_date n = n / 100 % 100

abbrev pub day_of_month : ℕ → ℕ
day_of_month n = n % 100

-- the number is a date from 20010101 to 20991231
unfoldable pub is_date : ℕ → Bool
is_date n = day_exists (year_of_date n) (month_of_date n) (day_of_month n)

-- the day number of the date that a number shows: the days from 1 January 2001
unfoldable pub day_number_of : ℕ → ℕ
day_number_of n = day_number (year_of_date n) (month_of_date n) (day_of_month n)

-- the number n is a date, and k its day number
abbrev pub HasDayNumber : ℕ → ℕ → Type 0
HasDayNumber n k = T (is_date n) × (day_number_of n ≡ k)

-- the date after a date: the next day of its month; after the last, the first of the next month; after December, of the
-- next year
unfoldable pub date_after : ℕ → ℕ
date_after n =
    if nat_lt (day_of_month n) (month_length (year_of_date n) (month_of_date n)) then n + 1
    else if nat_lt (month_of_date n) 12 then digits (year_of_date n) (month_of_date n + 1) 1
    else digits (year_of_date n + 1) 1 1

-- the date so many days after 1 January 2001
unfoldable pub date_of_day_number : ℕ → ℕ
date_of_day_number zero = 20010101
date_of_day_number (suc days) = date_after (date_of_day_number days)
