-- What the weather estimator means. Its figures keep the limits.
use Rattle.std.specs.Prelude.{◌≡◌, ℕ, ◌≤◌, Bool, true, false, if◌then◌else◌, T, Some, None, Option}
use Rattle.std.specs.Prelude.{option_and_then}
use Rattle.std.proofs.Common.{inl, inr, arith}
use Rattle.std.specs.Option.{option_map, option_map_or}
use Rattle.std.proofs.lemmas.Bool.{and_cases, cond_both}
use Rattle.std.proofs.lemmas.Bool.Decides.{nat_tests}
use Rattle.std.proofs.lemmas.Option.{option_and_then_some}
use Rattle.estimators.specs.Entries.{entry_numbered}
use Rattle.estimators.specs.Limits.{last_point, last_day, point_within}
use Rattle.estimators.specs.Limits.{day_place_within, count_within}
use Rattle.estimators.specs.Meaning.{Meaning, IsBounded, IsRanged, IsBoundedUnder, IsRangedUnder}
use Rattle.estimators.specs.Meaning.{weather_within}
use Rattle.estimators.proofs.Tables.{entry_passes}
use Rattle.estimates.specs.Factors.{factors_within, weather_figure, weather_figure_bound}
use Rattle.estimates.specs.declared.by_weather.ByWeather.{ByWeather}
use Rattle.estimates.specs.declared.factors.Factors.{Factors}
use Rattle.terms.specs.Limits.{greatest_figure}

-- the factors of a point, where it has any
abbrev pub factors_of : ByWeather → ℕ → Option Factors
factors_of s point = entry_numbered last_point s.factors point

-- the count of a day place, where one was entered
abbrev pub count_of : ByWeather → ℕ → Option ℕ
count_of s place = entry_numbered last_day s.counts place

-- the figure of a point under a count, by its factors; a point without factors has none
abbrev pub weather_figures_under : ByWeather → ℕ → Meaning
weather_figures_under s count point place =
    if weather_within place count
    then option_map (λ f. weather_figure f count) (factors_of s point)
    else None

-- the figure of a point under the count of the day place; a day place without one has none
abbrev pub weather_figures : ByWeather → Meaning
weather_figures s point place =
    option_and_then (λ count. weather_figures_under s count point place) (count_of s place)

-- the figure by factors that a point may have, on weather that may be within its limits
figure_by : (within : Bool) (o : Option Factors) (count : ℕ) → Option ℕ
figure_by within o count = if within then option_map (λ f. weather_figure f count) o else None

figure_by_bound : (within : Bool) (o : Option Factors) (count x : ℕ)
    → T (option_map_or factors_within o true) → (T within → T (count_within count))
    → figure_by within o count ≡ Some x → x ≤ greatest_figure
unfolding figure_by
figure_by_bound true None count x sound counted e = absurd (cc)
figure_by_bound true (Some f) count x sound counted e =
    let here : weather_figure f count ≡ x = cc in
    omega (arith, weather_figure_bound f count sound (counted tt))
figure_by_bound false o count x sound counted e = absurd (cc)

pub weather_figures_bounded_under : (s : ByWeather) → IsBoundedUnder (weather_figures_under s)
unfolding figure_by
weather_figures_bounded_under s count point place x e =
    figure_by_bound (weather_within place count) (factors_of s point) count x
    (entry_passes factors_within last_point s.factors point s.sound_factors)
    (λ within. grind (arith, nat_tests)) e

pub weather_figures_ranged_under : (s : ByWeather) → IsRangedUnder (weather_figures_under s)
weather_figures_ranged_under s count point place outside =
    elim (and_cases (point_within point) (weather_within place count) outside) [
      | inl no_point ↦ rw no_point
          (cond_both (weather_within place count) None None (λ o. o ≡ None) (λ _. cc) (λ _. cc))
      | inr no_weather ↦ rw no_weather
    ]

pub weather_figures_bounded : (s : ByWeather) → IsBounded (weather_figures s)
weather_figures_bounded s point place x e =
    option_and_then_some (λ count. weather_figures_under s count point place) (count_of s place) x e
    (λ count entered. weather_figures_bounded_under s count point place x)

always_none : (f : ℕ → Option ℕ) (o : Option ℕ) → ((count : ℕ) → f count ≡ None)
    → option_and_then f o ≡ None
always_none f None h = cc
always_none f (Some count) h = h count

pub weather_figures_ranged : (s : ByWeather) → IsRanged (weather_figures s)
weather_figures_ranged s point place outside =
    elim (and_cases (point_within point) (day_place_within place) outside) [
      | inl no_point ↦
          always_none (λ count. weather_figures_under s count point place) (count_of s place)
          (λ count. weather_figures_ranged_under s count point place (rw no_point (cc)))
      | inr no_place ↦ rw no_place
    ]
