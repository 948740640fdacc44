-- Division by a reciprocal. Assumes nothing.
use Rattle.std.proofs.Common.{◌≡◌, ℕ, ◌+◌, ◌-◌, ◌*◌, ◌/◌, ◌^◌, ◌<◌, ◌≤◌, Bool, true, false, ◌&&◌, eqb, leb, T, refl, ⊎_elim, mul-le-mul, mul-le-mul_left, mul-le-mul_right, mul_assoc, ap, ◌∙◌, arith}
use Rattle.std.proofs.Math.Nat.{add-mul, div-add-mod, div-eq_of_lt-le, mod-lt, mul-add, mul-one}
use Rattle.std.proofs.lemmas.Bool.{and_parts, cases_lt, eqb-true, leb-true, or_cases}
use Rattle.std.proofs.lemmas.Nat.{div-add-mod'}
use Rattle.allocation.specs.Divisor.{is_reciprocal}

passed : (b : Bool) → T b → b ≡ true
passed true t = refl
passed false t = absurd t

-- what a reciprocal that is used is
pub reciprocal_means : (by r : ℕ) → T (is_reciprocal by r) → 0 < r → (by ≤ 2 ^ 31) × (r ≡ (2 ^ 64 - 1) / by + 1)
reciprocal_means by r is used =
    ⊎_elim
    (λ (none : eqb r 0 ≡ true). absurd (omega (arith, eqb-true r 0 none)))
    (λ (some : (leb 2 by && (leb by (2 ^ 31) && eqb r ((2 ^ 64 - 1) / by + 1))) ≡ true).
    let rest = and_parts (leb by (2 ^ 31)) (eqb r ((2 ^ 64 - 1) / by + 1)) (and_parts (leb 2 by) _ some).1 in
    (leb-true by (2 ^ 31) rest.0, eqb-true r ((2 ^ 64 - 1) / by + 1) rest.1))
    (or_cases (eqb r 0) _ (passed _ is))

-- a number below 2^32 times 2^64 by a divisor, rounded up, is the quotient above 2^64
module _ (by inv n : ℕ) (low : 0 < by) (small : by ≤ 2 ^ 31) (is : inv ≡ (2 ^ 64 - 1) / by + 1) (few : n < 2 ^ 32) where
  -- the divisor times its reciprocal is 2^64 and less than a divisor more
  whole : (2 ^ 64 ≤ by * inv) × (by * inv < 2 ^ 64 + by)
  whole =
      let k = (2 ^ 64 - 1) / by in
      let rest = mod-lt (2 ^ 64 - 1) low in
      let parts = div-add-mod (2 ^ 64 - 1) by in
      let made : by * inv ≡ by * k + by * 1 = ap (λ i. by * i) is ∙ mul-add by k 1 in
      (omega (arith, made, mul-one by, parts, rest), omega (arith, made, mul-one by, parts, rest))

  large : 2 ^ 33 ≤ inv
  large =
      ⊎_elim
      (λ (less : inv < 2 ^ 33).
      let most : inv ≤ 2 ^ 33 - 1 = omega arith in
      let product : by * inv ≤ 2 ^ 31 * (2 ^ 33 - 1) = mul-le-mul small most in
      absurd (omega (arith, product, whole.0)))
      (λ (more : 2 ^ 33 ≤ inv). more) (cases_lt inv (2 ^ 33))

  up : n + 1 ≤ (n / by + 1) * by
  up = omega (arith, div-add-mod' n by, mod-lt n low, add-mul (n / by) 1 by)

  pub reciprocal_divides : n * inv / 2 ^ 64 ≡ n / by
  reciprocal_divides = div-eq_of_lt-le (2 ^ 64) below above
    where
      below : (n / by) * 2 ^ 64 ≤ n * inv
      below =
          omega (arith, mul-le-mul_left (n / by) whole.0, mul_assoc (n / by) by inv, mul-le-mul_right inv down)
        where
          down : (n / by) * by ≤ n
          down = omega (arith, div-add-mod' n by)

      above : n * inv < (n / by + 1) * 2 ^ 64
      above =
          let times : (n + 1) * inv ≤ (n / by + 1) * by * inv = mul-le-mul_right inv up in
          let regrouped = mul_assoc (n / by + 1) by inv in
          let most : (n / by + 1) * (by * inv) ≤ (n / by + 1) * (2 ^ 64 + by) = mul-le-mul_left (n / by + 1) (omega (arith, whole.1)) in
          let apart = mul-add (n / by + 1) (2 ^ 64) by in
          let one = add-mul n 1 inv in
          let last : (n / by + 1) * by ≤ n + by = omega (arith, div-add-mod' n by, add-mul (n / by) 1 by) in
          omega (arith, times, regrouped, most, apart, one, last, large, few, small)
