-- A point's factors, their limits, and the figure by them, which is within its own.
use Rattle.std.specs.Prelude.{ℕ, ◌+◌, ◌*◌, ◌/◌, ◌≤◌, Bool, T, ◌&&◌, nat_le}
use Rattle.std.proofs.Common.{mul-le-mul, arith}
use Rattle.std.proofs.lemmas.Bool.Decides.{nat_tests}
use Rattle.estimators.specs.Limits.{greatest_count, count_within, point_within}
use Rattle.estimates.specs.declared.factors.Factors.{Factors}
use Rattle.terms.specs.Limits.{greatest_figure}

-- a base load is at most this, in kilojoules a day
abbrev pub greatest_base_load : ℕ
greatest_base_load = 100000000

-- a sensitivity is at most this, in kilojoules a degree day
abbrev pub greatest_sensitivity : ℕ
greatest_sensitivity = 1000000

-- a base load and a sensitivity within their limits
abbrev pub factors_within : Factors → Bool
factors_within f = nat_le f.base_load greatest_base_load && nat_le f.sensitivity greatest_sensitivity

-- factors that can be entered for a point
abbrev pub factors_entry_within : ℕ → Factors → Bool
factors_entry_within point f = point_within point && factors_within f

-- the figure in megajoules by a point's factors under a count in hundredths, to the nearest, halves up
abbrev pub weather_figure : Factors → ℕ → ℕ
weather_figure f count = (100 * f.base_load + f.sensitivity * count + 50000) / 100000

-- the most that a day can call for, in hundredths of a kilojoule
pub heat_bound : (f : Factors) (count : ℕ) → T (factors_within f) → T (count_within count)
    → 100 * f.base_load + f.sensitivity * count ≤ 30000000000
heat_bound f count factors counted =
    let base_load : f.base_load ≤ greatest_base_load = grind (arith, nat_tests) in
    let sensitive : f.sensitivity ≤ greatest_sensitivity = grind (arith, nat_tests) in
    let degree_days : count ≤ greatest_count = grind (arith, nat_tests) in
    let weather : f.sensitivity * count ≤ greatest_sensitivity * greatest_count =
    mul-le-mul {n₂ = greatest_sensitivity} {m₂ = greatest_count} sensitive degree_days in
    omega arith

pub weather_figure_bound : (f : Factors) (count : ℕ) → T (factors_within f) → T (count_within count)
    → weather_figure f count ≤ greatest_figure
weather_figure_bound f count factors counted = omega (arith, heat_bound f count factors counted)
