-- Years, months and days from 1 January 2001 to 31 December 2099.
use Rattle.std.specs.Prelude.{◌≡◌, ℕ, ◌+◌, ◌-◌, ◌%◌, Bool, if◌then◌else◌, not, ◌&&◌, ◌||◌, ◌==◌, nat_le, refl}
use Rattle.std.specs.Prelude.{List, [], ◌∷◌, map, take, sum, slice_index}
use Rattle.std.specs.List.{range_with_len}

-- the first and the last year of the calendar
abbrev pub first_year : ℕ
first_year = 2001

abbrev pub last_year : ℕ
last_year = 2099

-- a leap year: 4 divides it, and where 100 divides it, 400 does too
unfoldable pub is_leap : ℕ → Bool
is_leap y = y % 4 == 0 && (not (y % 100 == 0) || y % 400 == 0)

-- the days of the twelve months, in a leap year or in another
abbrev pub month_lengths_by : Bool → List ℕ
month_lengths_by in_leap_year =
    31 ∷ (if in_leap_year then 29 else 28) ∷ 31 ∷ 30 ∷ 31 ∷ 30 ∷ 31 ∷ 31 ∷ 30 ∷ 31 ∷ 30 ∷ 31 ∷ []

-- the days of the twelve months of year y
unfoldable pub month_lengths : ℕ → List ℕ
month_lengths y = month_lengths_by (is_leap y)

-- the days of month m, counted from 1
unfoldable pub month_length : ℕ → ℕ → ℕ
month_length y m = slice_index (month_lengths y) (m - 1)

-- there is such a day: its year from 2001 to 2099, its month from 1 to 12, its day from 1 to the month's last
unfoldable pub day_exists : ℕ → ℕ → ℕ → Bool
day_exists y m d =
    (nat_le first_year y && nat_le y last_year)
    && ((nat_le 1 m && nat_le m 12) && (nat_le 1 d && nat_le d (month_length y m)))

-- the days of the months of year y before month m
unfoldable pub days_before_month : ℕ → ℕ → ℕ
days_before_month y m = sum (take (m - 1) (month_lengths y))

-- the days of a year
unfoldable pub year_length : ℕ → ℕ
year_length y = sum (month_lengths y)

-- the days of the years from 2001 up to the last before year y
unfoldable pub days_before_year : ℕ → ℕ
days_before_year y = sum (map year_length (range_with_len first_year (y - first_year)))

-- the place of a day in its year; 1 January has 1
abbrev pub day_of_year : ℕ → ℕ → ℕ → ℕ
day_of_year y m d = days_before_month y m + d

-- the days from 1 January 2001 to a day; 1 January 2001 has 0
abbrev pub day_number : ℕ → ℕ → ℕ → ℕ
day_number y m d = days_before_year y + days_before_month y m + (d - 1)

-- how many days there are from 1 January 2001 to 31 December 2099
abbrev pub days_in_all : ℕ
days_in_all = 36159

-- they are the days of all years before 2100
pub days_in_all_counted : days_in_all ≡ days_before_year 2100
unfolding days_before_year year_length month_lengths is_leap
days_in_all_counted = refl
