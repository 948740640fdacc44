-- What the hot-water estimator means. Its figures keep the limits.
use Rattle.std.specs.Prelude.{◌≡◌, ℕ, ◌+◌, ◌-◌, ◌≤◌, Bool, true, false, if◌then◌else◌, T, Some, None, Option}
use Rattle.std.specs.Prelude.{option_and_then}
use Rattle.std.proofs.Common.{inl, inr, arith}
use Rattle.std.specs.Option.{option_map, option_map_or}
use Rattle.std.proofs.lemmas.Bool.{and_cases, and_right}
use Rattle.estimators.specs.Entries.{entry_numbered}
use Rattle.estimators.specs.Limits.{last_point, point_within, day_place_within, count_within}
use Rattle.estimators.specs.Meaning.{Meaning, IsBounded, IsRanged, IsBoundedUnder, IsRangedUnder}
use Rattle.estimators.specs.Meaning.{weather_within}
use Rattle.estimators.proofs.Tables.{entry_passes}
use Rattle.estimates.specs.Season.{month_of_day_number}
use Rattle.estimates.specs.Usage.{usage_within, hot_water_figure, hot_water_figure_bound}
use Rattle.estimates.specs.declared.hot_water.HotWater.{HotWater}
use Rattle.estimates.specs.declared.usage.Usage.{Usage}
use Rattle.terms.specs.Limits.{greatest_figure}

-- the hot water of a point, where it has any
abbrev pub usage_of : HotWater → ℕ → Option Usage
usage_of s point = entry_numbered last_point s.usages point

-- the month of a day place, the first being the book's first day
abbrev pub month_of_place : HotWater → ℕ → Option ℕ
month_of_place s place =
    if day_place_within place then month_of_day_number (s.first_day_number + (place - 1)) else None

-- the figure of a point by its hot water and the month of the day; a point without hot water, or a day after 2099, has
-- none
abbrev pub hot_water_figures : HotWater → Meaning
hot_water_figures s point place =
    option_and_then (λ month. option_map (λ u. hot_water_figure u month) (usage_of s point))
    (month_of_place s place)

-- the same under every count that there can be
abbrev pub hot_water_figures_under : HotWater → ℕ → Meaning
hot_water_figures_under s count point place =
    if count_within count then hot_water_figures s point place else None

-- the figure by hot water that a point may have, in a month that there may be
figure_by : Option ℕ → Option Usage → Option ℕ
figure_by month usage = option_and_then (λ m. option_map (λ u. hot_water_figure u m) usage) month

figure_by_bound : (month : Option ℕ) (usage : Option Usage) (x : ℕ) → T (option_map_or usage_within usage true)
    → figure_by month usage ≡ Some x → x ≤ greatest_figure
unfolding figure_by
figure_by_bound None usage x sound e = absurd (cc)
figure_by_bound (Some m) None x sound e = absurd (cc)
figure_by_bound (Some m) (Some u) x sound e =
    let here : hot_water_figure u m ≡ x = cc in
    omega (arith, hot_water_figure_bound u m sound)

no_usage : (month : Option ℕ) → figure_by month None ≡ None
unfolding figure_by
no_usage None = cc
no_usage (Some m) = cc

pub hot_water_figures_bounded : (s : HotWater) → IsBounded (hot_water_figures s)
unfolding figure_by
hot_water_figures_bounded s point place x e =
    figure_by_bound (month_of_place s place) (usage_of s point) x
    (entry_passes usage_within last_point s.usages point s.sound_usages) e

pub hot_water_figures_ranged : (s : HotWater) → IsRanged (hot_water_figures s)
unfolding figure_by
hot_water_figures_ranged s point place outside =
    elim (and_cases (point_within point) (day_place_within place) outside) [
      | inl no_point ↦ rw no_point (no_usage (month_of_place s place))
      | inr no_place ↦ rw no_place
    ]

-- a figure that stands only where a test passes
some_where : (within : Bool) (o : Option ℕ) (x : ℕ) → (if within then o else None) ≡ Some x → o ≡ Some x
some_where true o x e = e
some_where false o x e = absurd (cc)

none_where : (within : Bool) (o : Option ℕ) → o ≡ None → (if within then o else None) ≡ None
none_where true o e = e
none_where false o e = cc

pub hot_water_figures_bounded_under : (s : HotWater) → IsBoundedUnder (hot_water_figures_under s)
hot_water_figures_bounded_under s count point place x e =
    hot_water_figures_bounded s point place x
    (some_where (count_within count) (hot_water_figures s point place) x e)

pub hot_water_figures_ranged_under : (s : HotWater) → IsRangedUnder (hot_water_figures_under s)
hot_water_figures_ranged_under s count point place outside =
    elim (and_cases (point_within point) (weather_within place count) outside) [
      | inl no_point ↦
          none_where (count_within count) (hot_water_figures s point place)
          (hot_water_figures_ranged s point place (rw no_point (cc)))
      | inr no_weather ↦
          elim (and_cases (day_place_within place) (count_within count) no_weather) [
            | inl no_place ↦
                none_where (count_within count) (hot_water_figures s point place)
                (hot_water_figures_ranged s point place
                (and_right (point_within point) (day_place_within place) no_place))
            | inr no_count ↦ rw no_count
          ]
    ]
