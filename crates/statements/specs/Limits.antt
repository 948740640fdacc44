-- How large a sum can become, and how many numbers a stage writes.
use Rattle.std.specs.Prelude.{ℕ, ◌+◌, ◌*◌}
use Rattle.terms.specs.Limits.{retailers}

-- the most that a sum is counted to: 2 to the power of 63, less 1
abbrev pub largest_statement_sum : ℕ
largest_statement_sum = 9223372036854775807

-- the sums of a statement: each retailer's, and the host remainder's
abbrev pub sum_count : ℕ
sum_count = retailers + 1

-- the numbers that a later stage writes: an adjustment of each sum, and then the sums
abbrev pub later_places : ℕ
later_places = 2 * sum_count
