-- Sums of weights that stop at the largest u64. Assumes nothing.
use Rattle.std.proofs.Common.{◌≡◌, ℕ, ◌+◌, ◌*◌, ◌<◌, ◌≤◌, List, map, length, get_or, sum, ap, arith}
use Rattle.std.proofs.lemmas.List.{get_or-map, length-map, take_all}
use Rattle.std.proofs.lemmas.List.Sums.{sum_by_more, sum_by-le, sum_by-take-le, sum-map}
use Rattle.allocation.specs.Sharing.{running_sum}

module _ {R : Type 0} (w : R → ℕ) (rows : List R) where
  -- one weight more, that of row i
  pub running_sum_more : (i : ℕ) (d : R) → i < length rows → running_sum (map w rows) (i + 1) ≡ running_sum (map w rows) i + w (get_or rows i d)
  running_sum_more i d h =
      let within : i < length (map w rows) = rw length-map h in
      omega (arith, sum_by_more (λ x. x) (map w rows) i 0 within, get_or-map w rows i d 0 h)

  pub running_sum_all : (i : ℕ) → length rows ≤ i → running_sum (map w rows) i ≡ sum (map w rows)
  running_sum_all i h = ap sum (take_all i (map w rows) (rw length-map h))

  pub running_sum_within : (i : ℕ) → running_sum (map w rows) i ≤ sum (map w rows)
  running_sum_within i = sum_by-take-le (λ x. x) (map w rows) i

  pub total_within : (most : ℕ) → ((row : R) → w row ≤ most) → sum (map w rows) ≤ length rows * most
  total_within most light = omega (arith, sum-map w rows, sum_by-le w most rows (λ i d h. light _))
