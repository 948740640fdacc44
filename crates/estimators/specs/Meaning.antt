-- What an estimator means, its limits, and what entering a count does to it.
use Rattle.std.specs.Prelude.{◌≡◌, ℕ, ◌≤◌, Bool, false, ◌&&◌, Some, None, Option, ◌≢◌}
use Rattle.estimators.specs.Limits.{point_within, day_place_within, count_within}
use Rattle.terms.specs.Limits.{greatest_figure}

-- a figure or none for each point and day place
abbrev pub Meaning : Type 0
Meaning = ℕ → ℕ → Option ℕ

-- all that a weather estimator means: its figures as they are, and those of a day place under each count
pub record Meanings : Type 0 where
  pub current : Meaning
  pub under : ℕ → Meaning

-- the two together
abbrev pub meanings_of : Meaning → (ℕ → Meaning) → Meanings
meanings_of m u = record { current = m; under = u }

-- every figure is within its limit
abbrev pub IsBounded : Meaning → Type 0
IsBounded m = (point place x : ℕ) → m point place ≡ Some x → x ≤ greatest_figure

-- outside the points and day places there is no figure
abbrev pub IsRanged : Meaning → Type 0
IsRanged m =
    (point place : ℕ) → (point_within point && day_place_within place) ≡ false → m point place ≡ None

-- weather that can be entered: a day place and a count within their limits
abbrev pub weather_within : ℕ → ℕ → Bool
weather_within place count = day_place_within place && count_within count

-- every figure under a count is within its limit
abbrev pub IsBoundedUnder : (ℕ → Meaning) → Type 0
IsBoundedUnder u = (count : ℕ) → IsBounded (u count)

-- outside the points, day places and counts there is no figure under a count
abbrev pub IsRangedUnder : (ℕ → Meaning) → Type 0
IsRangedUnder u =
    (count point place : ℕ) → (point_within point && weather_within place count) ≡ false
    → u count point place ≡ None

-- what entering a count for a day place does: its figures become those under the count, those of all other day places
-- stand, and so does every figure under a count
pub record TakesCount (place count : ℕ) (old new : Meaning) (old_under new_under : ℕ → Meaning) : Type 0 where
  pub here : (point : ℕ) → new point place ≡ old_under count point place
  pub elsewhere : (point other : ℕ) → (other ≢ place) → new point other ≡ old point other
  pub stands : (e point other : ℕ) → new_under e point other ≡ old_under e point other
