-- Leap years, the length of a year, and the days before a year, from 2001 to 2100. Assumes nothing.
use Rattle.std.proofs.Common.{◌≡◌, ℕ, zero, suc, ◌+◌, ◌-◌, ◌*◌, ◌/◌, ◌%◌, ◌<◌, ◌≤◌, true, false, cond, eqb, sum, refl, arith}
use native.Mathlib.Nat.{mul-add-mod_self_right}
use Rattle.std.proofs.lemmas.List.FromFn.{sum_by-map-range_with_len_more}
use Rattle.std.proofs.lemmas.Bool.Decides.{nat_tests}
use Rattle.calendar.specs.Gregorian.{is_leap, month_lengths_by, month_lengths, year_length, days_before_year}

-- from 2001 to 2099 every fourth year is a leap year
pub leap_by_four : (y : ℕ) → 2001 ≤ y → y ≤ 2099 → is_leap y ≡ eqb (y % 4) 0
unfolding is_leap
leap_by_four y low high = grind (arith, nat_tests)

-- a year has 365 days, and a leap year one more
pub year_length_is : (y : ℕ) → year_length y ≡ 365 + cond (is_leap y) 1 0
unfolding year_length month_lengths
year_length_is y = elim (is_leap y) as (λ b. sum (month_lengths_by b) ≡ 365 + cond b 1 0) [ true ↦ refl | false ↦ refl ]

-- the days before a year, and that year's own, are the days before the next
pub days_before_next_year : (y : ℕ) → 2001 ≤ y → days_before_year (y + 1) ≡ days_before_year y + year_length y
unfolding days_before_year
days_before_next_year y low =
    let one_more : y + 1 - 2001 ≡ y - 2001 + 1 = omega arith in
    rw one_more (sum_by-map-range_with_len_more (λ x. x) year_length 2001 (y - 2001) y (omega arith))

-- the same as a sum: the quotient is 0 in a leap year and 1 in another
pub year_length_by_four : (y : ℕ) → 2001 ≤ y → y ≤ 2099 → year_length y + (y % 4 + 3) / 4 ≡ 366
year_length_by_four y low high = grind (arith, nat_tests, year_length_is y, leap_by_four y low high)

days_after_years : (k : ℕ) → k ≤ 99 → days_before_year (2001 + k) ≡ 365 * k + k / 4
unfolding days_before_year
days_after_years zero h = refl
days_after_years (suc k) h =
    let one_more : 2001 + suc k ≡ 2001 + k + 1 = omega arith in
    let before : days_before_year (2001 + k) ≡ 365 * k + k / 4 = days_after_years k (omega arith) in
    let year : days_before_year (2001 + k + 1) ≡ days_before_year (2001 + k) + year_length (2001 + k) = days_before_next_year (2001 + k) (omega arith) in
    let length : year_length (2001 + k) + ((2001 + k) % 4 + 3) / 4 ≡ 366 = year_length_by_four (2001 + k) (omega arith) (omega arith) in
    rw one_more (omega arith)

-- the days before a year: 365 for each year since 2001, and one for each leap year among them
pub days_before_year_is : (y : ℕ) → 2001 ≤ y → y ≤ 2100 → days_before_year y ≡ 365 * (y - 2001) + (y - 2001) / 4
days_before_year_is y low high =
    let back : 2001 + (y - 2001) ≡ y = omega arith in
    rw back at (days_after_years (y - 2001) (omega arith))

-- the years in fours from 2001: three of 365 days, then one of 366
pub record InFour (fours years : ℕ) : Type 0 where
  pub before : days_before_year (2001 + fours * 4 + years) ≡ 1461 * fours + 365 * years
  pub length : year_length (2001 + fours * 4 + years) ≡ 365 + years / 3

pub in_four : (fours years : ℕ) → years < 4 → fours * 4 + years ≤ 98 → InFour fours years
in_four q k short high =
    let regrouped : 2001 + q * 4 + k ≡ q * 4 + (2001 + k) = omega arith in
    let rest : (2001 + q * 4 + k) % 4 ≡ (2001 + k) % 4 = rw regrouped (mul-add-mod_self_right q 4 (2001 + k)) in
    let four = year_length_by_four (2001 + q * 4 + k) (omega arith) (omega arith) in
    let closed = days_before_year_is (2001 + q * 4 + k) (omega arith) (omega arith) in
    record { before = omega arith; length = omega arith }
