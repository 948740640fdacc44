-- When a multiplication stands for a division.
use Rattle.std.specs.Prelude.{ℕ, ◌+◌, ◌-◌, ◌/◌, ◌^◌, Bool, ◌&&◌, ◌||◌, ◌==◌, nat_le}

-- the number is 2^64 by the divisor, rounded up, for a divisor from 2 to 2^31; or it is 0, and is not used
abbrev pub is_reciprocal : ℕ → ℕ → Bool
is_reciprocal by reciprocal =
    (reciprocal == 0) || (nat_le 2 by && (nat_le by (2 ^ 31) && reciprocal == (2 ^ 64 - 1) / by + 1))
