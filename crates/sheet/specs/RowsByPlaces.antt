-- Lists by their places: rows, and tables laid day by day.
use Rattle.std.specs.Prelude.{◌≡◌, ℕ, ◌+◌, ◌-◌, ◌*◌, ◌<◌, ◌≤◌, List, map, length, drop, slice_index}
use Rattle.std.specs.List.{range_with_len}
use Rattle.allocation.specs.declared.estimated_point.EstimatedPoint.{EstimatedPoint}
use Rattle.allocation.specs.declared.reading_day.ReadingDay.{ReadingDay}
use Rattle.allocation.specs.EstimatedPoint.{with_figure}
use Rattle.allocation.specs.ReadingDay.{with_share}
use Rattle.allocation.specs.Row.{rows_with_shares}

pub record RowsByPlaces : Type 0 where
  -- two lists that agree from place n on have the same rest, and a list is known by its places
  pub same_drop :
      (n : ℕ) (xs ys : List ℕ)
      → length xs ≡ length ys → ((k : ℕ) → n ≤ k → slice_index xs k ≡ slice_index ys k) → drop n xs ≡ drop n ys
  pub from_counting :
      (f : ℕ → ℕ) (n : ℕ) (xs : List ℕ)
      → length xs ≡ n → ((k : ℕ) → k < n → slice_index xs k ≡ f (k + 1)) → xs ≡ map f (range_with_len 1 n)
  -- rows that have taken their shares show them, and weigh what they did
  pub handed_figures :
      (rows : List EstimatedPoint) (ss : List ℕ)
      → length ss ≡ length rows → map (λ r. r.figure) (rows_with_shares with_figure rows ss) ≡ ss
  pub handed_estimates :
      (rows : List EstimatedPoint) (ss : List ℕ)
      → map (λ r. r.estimate) (rows_with_shares with_figure rows ss) ≡ map (λ r. r.estimate) rows
  pub handed_shares :
      (rows : List ReadingDay) (ss : List ℕ)
      → length ss ≡ length rows → map (λ r. r.share) (rows_with_shares with_share rows ss) ≡ ss
  pub handed_weights :
      (rows : List ReadingDay) (ss : List ℕ)
      → map (λ r. r.weight) (rows_with_shares with_share rows ss) ≡ map (λ r. r.weight) rows
  -- in a list laid day by day, by point, each point and day has a place of its own, between those of other days
  pub place_apart :
      (points p q d e : ℕ)
      → 1 ≤ p → p ≤ points → 1 ≤ q → q ≤ points → d * points + (p - 1) ≡ e * points + (q - 1) → (p ≡ q) × (d ≡ e)
  pub place_before : (points p d e : ℕ) → 1 ≤ p → p ≤ points → d < e → d * points + (p - 1) < e * points
  pub place_after : (points p d e : ℕ) → e ≤ d → e * points ≤ d * points + (p - 1)
