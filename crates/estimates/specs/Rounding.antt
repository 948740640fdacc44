-- Whole numbers that may be negative, and quotients to the nearest.
use Rattle.std.specs.Prelude.{ℕ, suc, ◌+◌, ◌-◌, ◌*◌, ◌/◌, ℤ, pos, negsuc, neg_ℤ}
use Rattle.terms.specs.Rounding.{nearest}

-- the number, or 0 if it is negative
abbrev pub or_zero : ℤ → ℕ
or_zero (pos n) = n
or_zero (negsuc n) = 0

-- the whole number nearest to a number that may be negative ÷ b, halves up; below zero a half goes up by going towards
-- zero
abbrev pub nearest_signed : ℤ → ℕ → ℤ
nearest_signed (pos a) b = pos (nearest a b)
nearest_signed (negsuc a) b = neg_ℤ (pos ((2 * suc a + b - 1) / (2 * b)))
