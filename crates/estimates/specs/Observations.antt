-- What weather stations observed on a day, and its degree-day count: what its weather calls for in heating.
use Rattle.std.specs.Prelude.{ℕ, ◌*◌, Bool, ◌&&◌, List, ℤ, pos, negsuc, ◌+ℤ◌, ◌-ℤ◌, ◌*ℤ◌}
use Rattle.std.specs.Prelude.{fold, sum, int_le, nat_le}
use Rattle.std.specs.List.{list_all}
use Rattle.estimates.specs.Rounding.{or_zero}
use Rattle.estimates.specs.SeasonTerm.{season_term}
use Rattle.estimates.specs.DegreeDayTerms.{hundredth, count_of_terms}
use Rattle.estimates.specs.declared.degree_day_terms.DegreeDayTerms.{DegreeDayTerms}
use Rattle.estimates.specs.declared.observations.Observations.{Observations}

-- a temperature is from −20.0 to 50.0 degrees, in tenths
abbrev pub coldest : ℤ
coldest = negsuc 199

abbrev pub hottest : ℤ
hottest = pos 500

-- a wind is at most this, in knots
abbrev pub strongest_wind : ℕ
strongest_wind = 100

-- sunshine is at most this, in tenths of an hour
abbrev pub most_sunshine : ℕ
most_sunshine = 160

-- days of a year are numbered from 1 to this
abbrev pub last_day_of_year : ℕ
last_day_of_year = 366

-- eight times 18 degrees, in tenths: a day is cold by what its temperatures together stay below that
abbrev pub threshold : ℤ
threshold = pos 1440

-- eight temperatures together stay below the threshold by at most this
abbrev pub largest_coldness : ℕ
largest_coldness = 3040

-- sixteen winds come to at most this, in knots
abbrev pub largest_wind_sum : ℕ
largest_wind_sum = 1600

-- a temperature within its limits
abbrev pub temperature_within : ℤ → Bool
temperature_within t = int_le coldest t && int_le t hottest

-- a wind within its limit
abbrev pub wind_within : ℕ → Bool
wind_within w = nat_le w strongest_wind

-- sunshine within its limit
abbrev pub sunshine_within : ℕ → Bool
sunshine_within h = nat_le h most_sunshine

-- there is such a day of a year
abbrev pub day_of_year_within : ℕ → Bool
day_of_year_within n = nat_le 1 n && nat_le n last_day_of_year

-- all of a day's observations are within their limits
abbrev pub observations_within : Observations → Bool
observations_within o =
    list_all temperature_within o.temperatures && (list_all wind_within o.winds && sunshine_within o.sunshine)

-- so are they, and there is such a day of the year: the day has a count
abbrev pub has_count : Observations → ℕ → Bool
has_count o day_of_year = observations_within o && day_of_year_within day_of_year

-- the sum of numbers that may be negative
abbrev pub signed_sum : List ℤ → ℤ
signed_sum xs = fold ◌+ℤ◌ (pos 0) xs

-- how far the eight temperatures together stay below the threshold, in tenths of a degree, or 0 if they do not
abbrev pub coldness : List ℤ → ℕ
coldness temperatures = or_zero (threshold -ℤ signed_sum temperatures)

-- the wind chill of coldness q and the sum w of the winds, in 1,600,000ths of a hundredth of a degree day
abbrev pub wind_chill : ℕ → ℕ → ℕ
wind_chill q w = 2869 * q * w

-- the four terms, in 1,600,000ths of a hundredth of a degree day, of coldness q, the sum w of the winds, sunshine h and
-- the season term s
abbrev pub terms_by : ℕ → ℕ → ℕ → ℤ → DegreeDayTerms
terms_by q w h s = record {
  temperature = 2000000 * q;
  wind_chill = wind_chill q w;
  sunshine = 2880000 * h;
  season = pos hundredth *ℤ s;
}

-- the terms of a day, from what was observed and the day of the year
abbrev pub terms_of : Observations → ℕ → DegreeDayTerms
terms_of o day_of_year = terms_by (coldness o.temperatures) (sum o.winds) o.sunshine (season_term day_of_year)

-- the degree-day count of a day, in hundredths, from what was observed and the day of the year
abbrev pub degree_days : Observations → ℕ → ℕ
degree_days o day_of_year = count_of_terms (terms_of o day_of_year)
