-- What holds of loads and weights.
use Rattle.std.proofs.Common.{◌≡◌, ℕ, ◌<◌, ◌≤◌, leb, arith}
use Rattle.std.proofs.lemmas.Bool.Decides.{nat_tests}
use Rattle.allocation.specs.Loads.{net_load, weight}

-- every day weighs something
pub weight_positive : (load : ℕ) → 0 < weight load
weight_positive load = grind (arith, nat_tests)

-- a weight keeps within any limit from 1 on that its load keeps within, and no other
pub weight_within : (load most : ℕ) → 1 ≤ most → leb (weight load) most ≡ leb load most
weight_within load most some = grind (arith, nat_tests)

-- no load is more than what came in
pub load_within : (energy_in energy_out interval : ℕ) → net_load energy_in energy_out interval ≤ energy_in
load_within energy_in energy_out interval = omega arith
