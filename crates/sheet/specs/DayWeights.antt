-- The loads of a sheet's days, and the days by their weights, as readings are shared over them.
use Rattle.std.specs.Prelude.{ℕ, Bool, true, List, map, Some, None, Option, nat_le}
use Rattle.std.specs.Option.{unwrap_or}
use Rattle.allocation.specs.Loads.{largest_gate, weight}
use Rattle.allocation.specs.declared.reading_day.ReadingDay.{ReadingDay}

-- the load of a day, if it has one, is at most the largest gate energy
abbrev pub load_within : Option ℕ → Bool
load_within None = true
load_within (Some n) = nat_le n largest_gate

-- a day weighs what its load does, and one without a load what a load of 0 does
abbrev pub weight_of_load : Option ℕ → ℕ
weight_of_load load = weight (unwrap_or load 0)

-- the weights of some days, and the shares that they have taken
abbrev pub weights_of_days : List ReadingDay → List ℕ
weights_of_days days = map (λ day. day.weight) days

abbrev pub shares_of_days : List ReadingDay → List ℕ
shares_of_days days = map (λ day. day.share) days
