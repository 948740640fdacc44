-- How far the numbers of a sharing go.
use Rattle.std.specs.Prelude.{ℕ}
use Rattle.allocation.specs.Loads.{largest_gate}
use Rattle.terms.specs.Limits.{greatest_figure}

-- the largest weight of a day of a reading: that of the largest load
abbrev pub largest_day_weight : ℕ
largest_day_weight = largest_gate

-- the largest estimate of a point on a day, in megajoules
abbrev pub largest_estimate : ℕ
largest_estimate = greatest_figure

-- the largest product of an amount, its number of rows and the largest weight of their kind
abbrev pub largest_product : ℕ
largest_product = 4000000000000000000
