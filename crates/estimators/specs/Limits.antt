-- The limits of every estimator.
use Rattle.std.specs.Prelude.{ℕ, Bool, ◌&&◌, nat_le}

-- points are numbered from 1 to this
abbrev pub last_point : ℕ
last_point = 256

-- day places go from 1, the book's first day, to this
abbrev pub last_day : ℕ
last_day = 400

-- a degree-day count is at most this, in hundredths
abbrev pub greatest_count : ℕ
greatest_count = 20000

-- there is such a point
abbrev pub point_within : ℕ → Bool
point_within point = nat_le 1 point && nat_le point last_point

-- there is such a day place
abbrev pub day_place_within : ℕ → Bool
day_place_within place = nat_le 1 place && nat_le place last_day

-- a degree-day count that there can be
abbrev pub count_within : ℕ → Bool
count_within count = nat_le count greatest_count
