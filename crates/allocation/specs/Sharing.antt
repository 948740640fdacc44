-- How an amount is shared over a row of weights.
use Rattle.std.specs.Prelude.{ℕ, ◌+◌, ◌-◌, ◌*◌, ◌/◌, ◌^◌, min, Bool, ◌&&◌, List, map, length, take, sum, nat_le, nat_lt}
use Rattle.std.specs.List.{range_with_len}
use Rattle.allocation.specs.SharingLimits.{largest_product}

-- the sum of the first k weights
abbrev pub running_sum : List ℕ → ℕ → ℕ
running_sum ws k = sum (take k ws)

-- what falls to weights that add up to s, out of amount c over a total weight w
unfoldable pub part : ℕ → ℕ → ℕ → ℕ
part c w s = c * s / w

-- share k, counted from 0: what falls to the first k + 1 weights, less what falls to the first k
unfoldable pub share_at : ℕ → List ℕ → ℕ → ℕ
share_at c ws k = part c (sum ws) (running_sum ws (k + 1)) - part c (sum ws) (running_sum ws k)

-- the shares of amount c, one for each weight, in their order
unfoldable pub shares : ℕ → List ℕ → List ℕ
shares c ws = map (share_at c ws) (range_with_len 0 (length ws))

-- an amount can be shared where some weight is above 0, and where the amount times the rows times the largest weight
-- of their kind keeps within its limit
abbrev pub can_share : ℕ → ℕ → List ℕ → Bool
can_share largest c ws = nat_le (c * length ws * largest) largest_product && nat_lt 0 (sum ws)

-- a number, or the largest u64 where it is more
abbrev pub saturated_u64 : ℕ → ℕ
saturated_u64 n = min n (2 ^ 64 - 1)
