-- Lists by their places.
use Rattle.std.proofs.Common.{◌≡◌, ℕ, ◌+◌, ◌-◌, ◌*◌, ◌/◌, ◌%◌, ◌<◌, ◌≤◌, List, map, length, get_or, drop, sym, refl, ap, ◌∙◌, arith, length-drop}
use Rattle.std.specs.List.{range_with_len}
use Rattle.std.proofs.lemmas.Nat.{div-mul-add, mod-mul-add, mul-add-lt, mul-le}
use Rattle.std.proofs.lemmas.List.FromFn.{get_or-map-range_with_len, length-map-range_with_len}
use Rattle.std.proofs.lemmas.List.{ext_get_or, get_or-drop}
use Rattle.allocation.specs.declared.estimated_point.EstimatedPoint.{EstimatedPoint}
use Rattle.allocation.specs.declared.reading_day.ReadingDay.{ReadingDay}
use Rattle.allocation.specs.EstimatedPoint.{with_figure}
use Rattle.allocation.specs.ReadingDay.{with_share}
use Rattle.allocation.specs.Row.{rows_with_shares}
use Rattle.allocation.proofs.RowShares.{rows_with_shares_keep, rows_with_shares_show}

-- two lists that agree from place n on have the same rest
pub same_drop : (n : ℕ) (xs ys : List ℕ) → length xs ≡ length ys → ((k : ℕ) → n ≤ k → get_or xs k 0 ≡ get_or ys k 0) → drop n xs ≡ drop n ys
same_drop n xs ys long same =
    ext_get_or 0 (drop n xs) (drop n ys) (length-drop n xs ∙ ap (λ k. k - n) long ∙ sym (length-drop n ys))
    (λ k h. get_or-drop n xs k 0 ∙ same (n + k) (omega arith) ∙ sym (get_or-drop n ys k 0))

-- a list of which place k holds f (k + 1) is f of 1 to n
pub from_counting : (f : ℕ → ℕ) (n : ℕ) (xs : List ℕ) → length xs ≡ n → ((k : ℕ) → k < n → get_or xs k 0 ≡ f (k + 1)) → xs ≡ map f (range_with_len 1 n)
from_counting f n xs long at =
    ext_get_or 0 xs (map f (range_with_len 1 n)) (long ∙ sym (length-map-range_with_len f 1 n))
    (λ k h.
    let low : k < n = omega arith in
    at k low ∙ sym (get_or-map-range_with_len f 1 n k (k + 1) 0 low (omega arith)))

-- Rows that have taken their shares show them, and weigh what they did.

pub handed_figures : (rows : List EstimatedPoint) (ss : List ℕ) → length ss ≡ length rows → map (λ r. r.figure) (rows_with_shares with_figure rows ss) ≡ ss
handed_figures = rows_with_shares_show with_figure (λ r. r.figure) (λ r s. refl)

pub handed_estimates : (rows : List EstimatedPoint) (ss : List ℕ) → map (λ r. r.estimate) (rows_with_shares with_figure rows ss) ≡ map (λ r. r.estimate) rows
handed_estimates = rows_with_shares_keep with_figure (λ r. r.estimate) (λ r s. refl)

pub handed_shares : (rows : List ReadingDay) (ss : List ℕ) → length ss ≡ length rows → map (λ r. r.share) (rows_with_shares with_share rows ss) ≡ ss
handed_shares = rows_with_shares_show with_share (λ r. r.share) (λ r s. refl)

pub handed_weights : (rows : List ReadingDay) (ss : List ℕ) → map (λ r. r.weight) (rows_with_shares with_share rows ss) ≡ map (λ r. r.weight) rows
handed_weights = rows_with_shares_keep with_share (λ r. r.weight) (λ r s. refl)

-- Cells of a list laid day by day, by point.

pub place_apart : (points p q d e : ℕ) → 1 ≤ p → p ≤ points → 1 ≤ q → q ≤ points → d * points + (p - 1) ≡ e * points + (q - 1) → (p ≡ q) × (d ≡ e)
place_apart points p q d e low high low' high' same =
    let columns = sym (mod-mul-add d points (p - 1) (omega arith)) ∙ ap (λ x. x % points) same ∙ mod-mul-add e points (q - 1) (omega arith) in
    let rows = sym (div-mul-add d points (p - 1) (omega arith)) ∙ ap (λ x. x / points) same ∙ div-mul-add e points (q - 1) (omega arith) in
    (omega (arith, columns), rows)

pub place_before : (points p d e : ℕ) → 1 ≤ p → p ≤ points → d < e → d * points + (p - 1) < e * points
place_before points p d e low high before = omega (arith, mul-add-lt d points (p - 1) e before (omega arith))

pub place_after : (points p d e : ℕ) → e ≤ d → e * points ≤ d * points + (p - 1)
place_after points p d e after = omega (arith, mul-le e points d points after (omega arith))
