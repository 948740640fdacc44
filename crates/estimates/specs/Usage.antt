-- A point's hot water, its limits, and the figure by it, which is within its own.
use Rattle.std.specs.Prelude.{ℕ, ◌+◌, ◌*◌, ◌/◌, ◌<◌, ◌≤◌, Bool, T, ◌&&◌, nat_le}
use Rattle.std.proofs.Common.{mul-le-mul, div-lt_iff_lt-mul, arith}
use Rattle.std.proofs.lemmas.Bool.Decides.{nat_tests}
use Rattle.estimators.specs.Limits.{point_within}
use Rattle.estimates.specs.Season.{season_of, reading_weight, day_weight}
use Rattle.estimates.specs.Season.{reading_weight_bound, day_weight_bound}
use Rattle.estimates.specs.declared.usage.Usage.{Usage}
use Rattle.terms.specs.Limits.{greatest_figure}

-- a reading is of at most so many litres
abbrev pub most_litres : ℕ
most_litres = 500000

-- over at most so many days
abbrev pub most_days : ℕ
most_days = 400

-- a litre takes at most so many kilojoules
abbrev pub most_heat : ℕ
most_heat = 1000

-- litres, days, month of the last reading and kilojoules a litre within their limits
abbrev pub usage_within : Usage → Bool
usage_within u =
    (nat_le u.litres most_litres && (nat_le 1 u.days && nat_le u.days most_days))
    && ((nat_le 1 u.read_in && nat_le u.read_in 12) && nat_le u.heat most_heat)

-- hot water that can be entered for a point
abbrev pub usage_entry_within : ℕ → Usage → Bool
usage_entry_within point u = point_within point && usage_within u

-- the figure in megajoules by a point's hot water, for a day in a month:
-- litres × heat × p × q ÷ (12,000 × days), to the nearest, halves up
abbrev pub hot_water_figure : Usage → ℕ → ℕ
hot_water_figure u month =
    (u.litres * u.heat * reading_weight (season_of u.read_in) * day_weight (season_of month) + 6000 * u.days)
    / (12000 * u.days)

-- the products of litres, kilojoules a litre and two weights, each within what 64 bits hold, and the days of a reading
pub record HasSmallProducts (u : Usage) (reading day : ℕ) : Type 0 where
  pub energy : u.litres * u.heat ≤ 500000000
  pub read : u.litres * u.heat * reading ≤ 3000000000
  pub whole : u.litres * u.heat * reading * day ≤ 12000000000
  pub some_days : 1 ≤ u.days
  pub few_days : u.days ≤ most_days

pub small_products : (u : Usage) (reading day : ℕ) → T (usage_within u) → reading ≤ 6 → day ≤ 4
    → HasSmallProducts u reading day
small_products u reading day within reading_low day_low =
    let litres : u.litres ≤ most_litres = grind (arith, nat_tests) in
    let heat : u.heat ≤ most_heat = grind (arith, nat_tests) in
    let energy : u.litres * u.heat ≤ 500000000 = mul-le-mul {n₂ = most_litres} {m₂ = most_heat} litres heat in
    let read : u.litres * u.heat * reading ≤ 3000000000 =
    mul-le-mul {n₂ = 500000000} {m₂ = 6} energy reading_low in
    record {
      energy = energy;
      read = read;
      whole = mul-le-mul {n₂ = 3000000000} {m₂ = 4} read day_low;
      some_days = grind (arith, nat_tests);
      few_days = grind (arith, nat_tests);
    }

-- a quotient that a million times the divisor and more covers
quotient_bound : (energy days : ℕ) → energy ≤ 12000000000 → 1 ≤ days
    → (energy + 6000 * days) / (12000 * days) ≤ greatest_figure
quotient_bound energy days low some =
    let divisor : 0 < 12000 * days = omega arith in
    let covered : energy + 6000 * days < 1000001 * (12000 * days) = omega arith in
    let under : (energy + 6000 * days) / (12000 * days) < 1000001 = (div-lt_iff_lt-mul divisor).1 covered in
    omega arith

pub hot_water_figure_bound : (u : Usage) (month : ℕ) → T (usage_within u)
    → hot_water_figure u month ≤ greatest_figure
hot_water_figure_bound u month within =
    let reading = season_of u.read_in in
    let day = season_of month in
    let small = small_products u (reading_weight reading) (day_weight day) within
    (reading_weight_bound reading) (day_weight_bound day) in
    quotient_bound (u.litres * u.heat * reading_weight reading * day_weight day) u.days
    small.whole small.some_days
