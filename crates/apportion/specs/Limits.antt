-- What can be spread over what.
use Rattle.std.specs.Prelude.{ℕ, Bool, true, ◌&&◌, List, [], ◌∷◌, length, nat_le}
use Rattle.terms.specs.Limits.{largest_energy}
use Rattle.estimators.specs.Limits.{last_day}
use Rattle.allocation.specs.Loads.{largest_gate}

-- the largest load of a day: no more than enters through the gate
abbrev pub largest_load : ℕ
largest_load = largest_gate

-- no load passes the largest
abbrev pub loads_within : List ℕ → Bool
loads_within [] = true
loads_within (load ∷ loads) = nat_le load largest_load && loads_within loads

-- the energy is within its limit, and there is at least one day and at most as many as a book has
abbrev pub is_sized : ℕ → List ℕ → Bool
is_sized energy loads = nat_le energy largest_energy && (nat_le 1 (length loads) && nat_le (length loads) last_day)

-- an energy that can be spread over loads
abbrev pub can_spread : ℕ → List ℕ → Bool
can_spread energy loads = is_sized energy loads && loads_within loads
