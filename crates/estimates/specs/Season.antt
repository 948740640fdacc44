-- The month of a day, and the seasons of the year by how much hot water is used in them.
use Rattle.std.specs.Prelude.{ℕ, ◌≤◌, if◌then◌else◌, ◌&&◌, ◌||◌, ◌==◌, nat_le, nat_lt, Some, None, Option}
use Rattle.std.proofs.Common.{arith}
use Rattle.calendar.specs.Gregorian.{days_in_all}
use Rattle.estimates.specs.declared.season.Season.{Season}
use Rattle.estimates.specs.declared.season.Season.TheVariants.{Cold, Between, Warm}
use Rattle.calendar.specs.Digits.{month_of_date, date_of_day_number}

-- the month of the date that has a day number; after 2099 there is none
abbrev pub month_of_day_number : ℕ → Option ℕ
month_of_day_number n = if nat_lt n days_in_all then Some (month_of_date (date_of_day_number n)) else None

-- the season of a month: cold from August to October, between in June, July, November and December, else warm
abbrev pub season_of : ℕ → Season
season_of month =
    if nat_le 8 month && nat_le month 10 then Cold else
    (if (month == 6 || month == 7) || (month == 11 || month == 12) then Between else Warm)

-- p, by the season of the last reading: in the cold more is used, so that litres read then count for less
abbrev pub reading_weight : Season → ℕ
reading_weight Cold = 3
reading_weight Between = 4
reading_weight Warm = 6

-- q, by the season of the day: in the cold more is used; p × q is 12 where both fall in the same season
abbrev pub day_weight : Season → ℕ
day_weight Cold = 4
day_weight Between = 3
day_weight Warm = 2

-- no weight of a reading is above 6, and none of a day above 4
pub reading_weight_bound : (s : Season) → reading_weight s ≤ 6
reading_weight_bound Cold = omega arith
reading_weight_bound Between = omega arith
reading_weight_bound Warm = omega arith

pub day_weight_bound : (s : Season) → day_weight s ≤ 4
day_weight_bound Cold = omega arith
day_weight_bound Between = omega arith
day_weight_bound Warm = omega arith
