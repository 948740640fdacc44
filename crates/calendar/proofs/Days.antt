-- What it says that a day exists, in its numbers and in its eight digits. Assumes nothing.
use Rattle.std.proofs.Common.{◌≡◌, ℕ, ◌≤◌, Bool, true, false, T, refl, arith}
use Rattle.std.proofs.lemmas.Bool.Decides.{nat_tests}
use Rattle.calendar.specs.Gregorian.{day_exists, month_length}
use Rattle.calendar.specs.declared.date.Date.{Date}
use Rattle.calendar.proofs.Months.{month_length_at_most}

-- year, month and day lie within their limits
pub record InCalendar (y m d : ℕ) : Type 0 where
  pub year_low : 2001 ≤ y
  pub year_high : y ≤ 2099
  pub month_low : 1 ≤ m
  pub month_high : m ≤ 12
  pub day_low : 1 ≤ d
  pub day_high : d ≤ month_length y m
  pub day_short : d ≤ 31

-- a test that passes, as a type and as an equation
pub true_from_t : (b : Bool) → T b → b ≡ true
true_from_t true t = refl
true_from_t false t = absurd t

T_from_true : (b : Bool) → b ≡ true → T b
T_from_true b e = rw e tt

-- a day that exists lies within the limits
pub in_calendar : (y m d : ℕ) → T (day_exists y m d) → InCalendar y m d
unfolding day_exists
in_calendar y m d t =
    let here : day_exists y m d ≡ true = true_from_t (day_exists y m d) t in
    let month_low : 1 ≤ m = grind (arith, nat_tests) in
    let month_high : m ≤ 12 = grind (arith, nat_tests) in
    let day_high : d ≤ month_length y m = grind (arith, nat_tests) in
    record {
      year_low = grind (arith, nat_tests);
      year_high = grind (arith, nat_tests);
      month_low = month_low;
      month_high = month_high;
      day_low = grind (arith, nat_tests);
      day_high = day_high;
      day_short = omega (arith, month_length_at_most y m month_low month_high);
    }

-- a day within the limits exists
pub day_exists_from : (y m d : ℕ) → 2001 ≤ y → y ≤ 2099 → 1 ≤ m → m ≤ 12 → 1 ≤ d → d ≤ month_length y m → T (day_exists y m d)
unfolding day_exists
day_exists_from y m d year_low year_high month_low month_high day_low day_high = T_from_true (day_exists y m d) (grind (arith, nat_tests))

-- so does every date
pub dated : (d : Date) → InCalendar d.year d.month d.day
dated d = in_calendar d.year d.month d.day d.real
