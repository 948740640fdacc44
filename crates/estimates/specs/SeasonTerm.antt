-- The season term of a day: twice the cosine of the day's distance from midwinter, in hundredths, by the cosine's power
-- series.
use Rattle.std.specs.Prelude.{ℕ, zero, suc, ◌+◌, ◌-◌, ◌*◌, ◌/◌, ◌^◌, Bool, true, false, if◌then◌else◌, ◌&&◌}
use Rattle.std.specs.Prelude.{List, [], ◌∷◌, ℤ, pos, negsuc, ◌-ℤ◌, ◌*ℤ◌, ◌==◌, int_le, nat_lt}
use Rattle.estimates.specs.Rounding.{nearest_signed}

-- the days between day n of the year and day 200, forward or backward
abbrev pub apart : ℕ → ℕ
apart n = (n - 200) + (200 - n)

-- the same the shorter way round a year of 365 days
abbrev pub from_midwinter : ℕ → ℕ
from_midwinter n = if nat_lt 182 (apart n) then 365 - apart n else apart n

-- 1 × 2 × .. × n
abbrev pub factorial : ℕ → ℕ
factorial zero = 1
factorial (suc n) = suc n * factorial n

-- what the terms of the sum are counted in, so that each is a whole number
abbrev pub denominator : ℕ
denominator = 41245 ^ 20 * factorial 20

-- y to the power k over k!, at y = 710 m ÷ 41,245, for k up to 20
abbrev pub term : ℕ → ℕ → ℕ
term m k = (710 * m) ^ k * 41245 ^ (20 - k) * (factorial 20 / factorial k)

-- the cosine sum to its twentieth power: 1 − y² ÷ 2! + y⁴ ÷ 4! − .. + y²⁰ ÷ 20!
abbrev pub cosine_sum : ℕ → ℤ
cosine_sum m =
    pos (term m 0 + term m 4 + term m 8 + term m 12 + term m 16 + term m 20)
    -ℤ pos (term m 2 + term m 6 + term m 10 + term m 14 + term m 18)

-- the season term of day n of the year: the whole number nearest to 200 times the sum, halves up
abbrev pub season_term : ℕ → ℤ
season_term n = nearest_signed (pos 200 *ℤ cosine_sum (from_midwinter n)) denominator

-- two whole numbers are one
abbrev pub equal : ℤ → ℤ → Bool
equal (pos a) (pos b) = a == b
equal (pos a) (negsuc b) = false
equal (negsuc a) (pos b) = false
equal (negsuc a) (negsuc b) = a == b

-- each entry of a table is the season term of its day, the first entry's day being n
abbrev pub are_season_terms : ℕ → List ℤ → Bool
are_season_terms n [] = true
are_season_terms n (x ∷ xs) = equal x (season_term n) && are_season_terms (suc n) xs

-- a season term is from −2.00 to 2.00 degree days
abbrev pub season_term_within : ℤ → Bool
season_term_within s = int_le (negsuc 199) s && int_le s (pos 200)
