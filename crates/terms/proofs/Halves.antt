-- The nearest quotient from the quotient and the rest. Assumes nothing.
use Rattle.std.proofs.Common.{◌≡◌, ℕ, ◌+◌, ◌-◌, ◌*◌, ◌/◌, ◌%◌, ◌<◌, ◌≤◌, sym, ap, ◌∙◌, arith}
use Rattle.std.proofs.lemmas.Nat.{div-add-mod', div-mul-add, mod_below}
use Rattle.terms.specs.Rounding.{nearest}

-- q with what is left below one whole
nearest_is : (n d q b : ℕ) → b < 2 * d → q * (2 * d) + b ≡ 2 * n + d → q ≡ nearest n d
nearest_is n d q b h e = sym (div-mul-add q (2 * d) b h) ∙ ap (λ m. m / (2 * d)) e

-- a rest of half and more is rounded up
pub rounds_up : (n d : ℕ) → 0 < d → d ≤ n % d + n % d → n / d + 1 ≡ nearest n d
rounds_up n d pos half =
    nearest_is n d (n / d + 1) (2 * (n % d) - d) (omega (arith, mod_below n d pos))
    (omega (arith, div-add-mod' n d, mod_below n d pos))

-- a smaller one is dropped
pub rounds_down : (n d : ℕ) → 0 < d → n % d + n % d < d → n / d ≡ nearest n d
rounds_down n d pos small =
    nearest_is n d (n / d) (2 * (n % d) + d) (omega (arith, mod_below n d pos)) (omega (arith, div-add-mod' n d))
