-- The four terms of a day's degree days, and the count that they come to.
use Rattle.std.specs.Prelude.{ℕ, ◌+◌, ◌≤◌, ℤ, pos, ◌+ℤ◌, ◌-ℤ◌, neg_ℤ, ◌≤ℤ◌}
use Rattle.terms.specs.Rounding.{nearest}
use Rattle.estimates.specs.Rounding.{or_zero}
use Rattle.estimates.specs.declared.degree_day_terms.DegreeDayTerms.{DegreeDayTerms}

-- so many parts of a term make a hundredth of a degree day
abbrev pub hundredth : ℕ
hundredth = 1600000

-- no count is above this, in hundredths: that of −20.0 °C and winds of 100 knots without sunshine at midwinter
abbrev pub largest_degree_days : ℕ
largest_degree_days = 12722

-- no term is further from 0 than these, in parts of a hundredth of a degree day
abbrev pub largest_temperature_term : ℕ
largest_temperature_term = 6080000000

abbrev pub largest_wind_chill : ℕ
largest_wind_chill = 13954816000

abbrev pub largest_sunshine_term : ℕ
largest_sunshine_term = 460800000

abbrev pub largest_season_term : ℕ
largest_season_term = 320000000

-- and no sum of terms is above this
abbrev pub largest_sum : ℕ
largest_sum = 20354816000

-- the sum of the terms: temperature and wind chill, less sunshine, and the season's
abbrev pub sum_of_terms : DegreeDayTerms → ℤ
sum_of_terms t = pos (t.temperature + t.wind_chill) -ℤ pos t.sunshine +ℤ t.season

-- the count that terms come to: their sum, or 0 if it is negative, to the nearest hundredth, halves up
abbrev pub count_of_terms : DegreeDayTerms → ℕ
count_of_terms t = nearest (or_zero (sum_of_terms t)) hundredth

-- the terms are such as observations within their limits have
pub record AreTermsWithin (t : DegreeDayTerms) : Type 0 where
  pub cold : t.temperature ≤ largest_temperature_term
  pub windy : t.wind_chill ≤ largest_wind_chill
  pub sunny : t.sunshine ≤ largest_sunshine_term
  pub low : neg_ℤ (pos largest_season_term) ≤ℤ t.season
  pub high : t.season ≤ℤ pos largest_season_term
