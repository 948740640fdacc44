-- Products within the limit of a sharing. Assumes nothing.
use Rattle.std.proofs.Common.{◌≡◌, ℕ, ◌-◌, ◌*◌, ◌^◌, ◌<◌, ◌≤◌, ⊎_elim, mul-le-mul_right, mul_assoc, mul-le-mul_left, zero-mul, arith}
use native.Mathlib.Nat.{zero-div, min-le_left}
use Rattle.std.proofs.lemmas.Bool.{cases_lt}
use Rattle.allocation.specs.SharingLimits.{largest_product}
use Rattle.allocation.specs.Sharing.{part, saturated_u64}

-- Where the amount c times n rows times their largest weight keeps within the limit, for weights that add up to s of w.
module _ (c n most : ℕ) (limit : c * n * most ≤ largest_product) (s w : ℕ) (few : w ≤ n * most) (of_all : s ≤ w) where
  pub product_fits : c * saturated_u64 s ≤ largest_product
  product_fits = omega (arith, mul_assoc c n most, mul-le-mul_left c few, mul-le-mul_left c of_all, mul-le-mul_left c (min-le_left s (2 ^ 64 - 1)))

  -- an amount of 0 falls as 0 whatever the sums, and for any other no sum of weights is capped
  pub falls : part c (saturated_u64 w) (saturated_u64 s) ≡ part c w s
  unfolding part
  falls =
      ⊎_elim
      (λ (pos : 0 < c).
      let small : w ≤ largest_product = omega (arith, mul_assoc c n most, mul-le-mul_left c few, mul-le-mul_right w pos) in
      let s_is : saturated_u64 s ≡ s = omega arith in
      let w_is : saturated_u64 w ≡ w = omega arith in
      rw (s_is, w_is))
      (λ (none : c ≤ 0).
      let c_is : c ≡ 0 = omega arith in
      simp (c_is, zero-mul, zero-div))
      (cases_lt 0 c)
