-- The net system load of a day, in whole megajoules.
use Rattle.std.specs.Prelude.{ℕ, ◌+◌, ◌-◌, ◌*◌, Bool, if◌then◌else◌, ◌&&◌, ◌==◌, nat_le}
use Rattle.terms.specs.Rounding.{nearest}

-- the most energy that enters or leaves through the gate on a day
abbrev pub largest_gate : ℕ
largest_gate = 1000000000

-- the interval meters of an area, numbered from 1
abbrev pub meters : ℕ
meters = 32

-- the most that one interval meter burns on a day
abbrev pub largest_interval : ℕ
largest_interval = 100000000

-- the most that all interval meters burn on a day
abbrev pub largest_interval_total : ℕ
largest_interval_total = meters * largest_interval

-- the largest share of unaccounted-for gas, in ten-thousandths
abbrev pub largest_unaccounted : ℕ
largest_unaccounted = 2000

-- an interval total and a share of unaccounted-for gas are within their limits
abbrev pub interval_within_limits : ℕ → ℕ → Bool
interval_within_limits total u = nat_le total largest_interval_total && nat_le u largest_unaccounted

-- the interval energy with its share of unaccounted-for gas, u ten-thousandths of the whole, to the nearest megajoule
abbrev pub adjusted : ℕ → ℕ → ℕ
adjusted total u = nearest (total * 10000) (10000 - u)

-- the energies of a day are within their limits; no interval total adjusts to more than 4,000,000,000
abbrev pub gate_within_limits : ℕ → ℕ → ℕ → Bool
gate_within_limits energy_in energy_out interval =
    nat_le energy_in largest_gate
    && (nat_le energy_out largest_gate && nat_le interval (adjusted largest_interval_total largest_unaccounted))

-- the net system load: what enters less what leaves and what interval meters burn, 0 where that is negative
abbrev pub net_load : ℕ → ℕ → ℕ → ℕ
net_load energy_in energy_out interval = energy_in - (energy_out + interval)

-- the weight of a day: its load, or 1 where that is 0
abbrev pub weight : ℕ → ℕ
weight load = if load == 0 then 1 else load
