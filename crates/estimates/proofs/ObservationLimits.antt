-- Observations within their limits: each one's, and those of their sums.
use Rattle.std.proofs.Common.{◌≡◌, ℕ, ◌<◌, ◌≤◌, true, ◌&&◌, length, get_or, sum, ℤ, pos, negsuc, ◌≤ℤ◌, sym, arith}
use lib.Signed.{le_z, le_z_yes}
use Rattle.std.specs.Prelude.{IsTrue}
use Rattle.std.specs.List.{list_all}
use Rattle.std.proofs.lemmas.Bool.{and_parts, leb-true}
use Rattle.std.proofs.lemmas.Int.{ints}
use Rattle.std.proofs.lemmas.List.Sums.{sum_by-le, AllPass-from_list_all}
use Rattle.estimates.specs.Rounding.{or_zero}
use Rattle.estimates.specs.Observations.{temperature_within, wind_within, sunshine_within, observations_within}
use Rattle.estimates.specs.Observations.{coldest, hottest, strongest_wind, largest_wind_sum}
use Rattle.estimates.specs.declared.observations.Observations.{Observations}

pub temperature_bounds : (t : ℤ) → true ≡ temperature_within t → (coldest ≤ℤ t) × (t ≤ℤ hottest)
temperature_bounds t e =
    let parts = and_parts (le_z coldest t) (le_z t hottest) (sym e) in
    (le_z_yes (rw parts.0 tt), le_z_yes (rw parts.1 tt))

pub or_zero_at_most : (z : ℤ) (n : ℕ) → z ≤ℤ pos n → or_zero z ≤ n
or_zero_at_most (pos k) n h = omega (arith, ints)
or_zero_at_most (negsuc k) n h = omega arith

-- a number that is another, and so within that one's limit
pub within : {x y n : ℕ} → x ≡ y → y ≤ n → (x ≡ y) × (x ≤ n)
within e h = (e, omega (arith, e, h))

module _ (o : Observations) (within : IsTrue (observations_within o)) where
  parts : (list_all temperature_within o.temperatures ≡ true) × ((list_all wind_within o.winds && sunshine_within o.sunshine) ≡ true)
  parts = and_parts _ _ within

  -- each temperature is within its limits
  pub temperature_at : (i : ℕ) (d : ℤ) → i < length o.temperatures → (coldest ≤ℤ get_or o.temperatures i d) × (get_or o.temperatures i d ≤ℤ hottest)
  temperature_at i d h = temperature_bounds _ (sym (AllPass-from_list_all temperature_within o.temperatures parts.0 i d h))

  -- sixteen winds within their limits add up to at most 1,600 knots
  pub winds_sum : length o.winds ≡ 16 → sum o.winds ≤ largest_wind_sum
  winds_sum sixteen =
      let calm = and_parts (list_all wind_within o.winds) (sunshine_within o.sunshine) parts.1 in
      omega (arith, sum_by-le (λ w. w) strongest_wind o.winds (λ i d h. leb-true _ _ (AllPass-from_list_all wind_within o.winds calm.0 i d h)))
