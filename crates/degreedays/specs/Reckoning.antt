-- The degree days of a date.
use Rattle.std.specs.Prelude.{ℕ}
use Rattle.calendar.specs.Gregorian.{day_of_year}
use Rattle.estimates.specs.Observations.{terms_of, degree_days}
use Rattle.estimates.specs.declared.observations.Observations.{Observations}
use Rattle.degreedays.specs.declared.reckoning.Reckoning.{Reckoning}
use Rattle.calendar.specs.Digits.{year_of_date, month_of_date, day_of_month}

-- the day of its year of the date that a number of eight digits shows
abbrev pub day_of_year_of : ℕ → ℕ
day_of_year_of date = day_of_year (year_of_date date) (month_of_date date) (day_of_month date)

-- the terms and the count of a date's weather
abbrev pub reckoning_of : ℕ → Observations → Reckoning
reckoning_of date day = record {
  day_of_year = day_of_year_of date;
  terms = terms_of day (day_of_year_of date);
  count = degree_days day (day_of_year_of date);
}
