-- The days of the months and the days before them. Assumes nothing.
use Rattle.std.proofs.Common.{◌≡◌, ℕ, zero, suc, ◌+◌, ◌-◌, ◌*◌, ◌<◌, ◌≤◌, Bool, true, false, cond, ◌&&◌, eqb, leb, ltb, List, [], ◌∷◌, get_or, take, sum, sym, refl, ◌∙◌, arith}
use Rattle.std.proofs.lemmas.List.Sums.{sum_by_more, sum_by-take-le}
use Rattle.std.proofs.lemmas.List.{take-take}
use Rattle.std.proofs.lemmas.Bool.{eqb-true, leb-true}
use Rattle.std.proofs.lemmas.Bool.Decides.{Decides-below_and}
use Rattle.calendar.specs.Gregorian.{is_leap, month_lengths_by, month_lengths, month_length, days_before_month, year_length}

-- the test passes at every number below n
abbrev all_below : (ℕ → Bool) → ℕ → Bool
all_below f zero = true
all_below f (suc n) = f n && all_below f n

-- one computed test over all numbers below n
passes_below : (f : ℕ → Bool) (n : ℕ) → all_below f n ≡ true → (k : ℕ) → k < n → f k ≡ true
passes_below f n = (Decides-below_and f (λ k. f k ≡ true) (all_below f) (λ k. (λ e. e, λ e. e)) refl (λ _. refl) n).0

-- the same test in a leap year and in another
passes_both : (f : Bool → ℕ → Bool) (n : ℕ) → all_below (f true) n ≡ true → all_below (f false) n ≡ true → (b : Bool) (k : ℕ) → k < n → f b k ≡ true
passes_both f n in_leap in_other true k h = passes_below (f true) n in_leap k h
passes_both f n in_leap in_other false k h = passes_below (f false) n in_other k h

-- the days of the months where it is no leap year
abbrev pub plain_lengths : List ℕ
plain_lengths = 31 ∷ 28 ∷ 31 ∷ 30 ∷ 31 ∷ 30 ∷ 31 ∷ 31 ∷ 30 ∷ 31 ∷ 30 ∷ 31 ∷ []

-- the days before each of those months
abbrev pub plain_sums : List ℕ
plain_sums = 0 ∷ 31 ∷ 59 ∷ 90 ∷ 120 ∷ 151 ∷ 181 ∷ 212 ∷ 243 ∷ 273 ∷ 304 ∷ 334 ∷ []

lengths_at : (b : Bool) (k : ℕ) → k < 12 → get_or (month_lengths_by b) k 0 ≡ get_or plain_lengths k 0 + cond (eqb k 1 && b) 1 0
lengths_at b k h =
    eqb-true (get_or (month_lengths_by b) k 0) (get_or plain_lengths k 0 + cond (eqb k 1 && b) 1 0)
    (passes_both (λ b k. eqb (get_or (month_lengths_by b) k 0) (get_or plain_lengths k 0 + cond (eqb k 1 && b) 1 0)) 12 refl refl b k h)

-- a month has 28 days at least, and 31 at most
pub month_length_at_least : (y m : ℕ) → 1 ≤ m → m ≤ 12 → 28 ≤ month_length y m
unfolding month_length month_lengths
month_length_at_least y m low high =
    leb-true 28 (get_or (month_lengths_by (is_leap y)) (m - 1) 0)
    (passes_both (λ b k. leb 28 (get_or (month_lengths_by b) k 0)) 12 refl refl (is_leap y) (m - 1) (omega arith))

pub month_length_at_most : (y m : ℕ) → 1 ≤ m → m ≤ 12 → month_length y m ≤ 31
unfolding month_length month_lengths
month_length_at_most y m low high =
    leb-true (get_or (month_lengths_by (is_leap y)) (m - 1) 0) 31
    (passes_both (λ b k. leb (get_or (month_lengths_by b) k 0) 31) 12 refl refl (is_leap y) (m - 1) (omega arith))

-- a month's length, by the table and the leap day
pub month_length_is : (y m : ℕ) → 1 ≤ m → m ≤ 12 → month_length y m ≡ get_or plain_lengths (m - 1) 0 + cond (eqb (m - 1) 1 && is_leap y) 1 0
unfolding month_length month_lengths
month_length_is y m low high = lengths_at (is_leap y) (m - 1) (omega arith)

pub plain_sums_at_most : (k : ℕ) → k < 12 → get_or plain_sums k 0 ≤ 334
plain_sums_at_most k h =
    leb-true (get_or plain_sums k 0) 334 (passes_below (λ k. leb (get_or plain_sums k 0) 334) 12 refl k h)

sums_at : (b : Bool) (k : ℕ) → k < 12 → sum (take k (month_lengths_by b)) ≡ get_or plain_sums k 0 + cond (ltb 1 k && b) 1 0
sums_at b k h =
    eqb-true (sum (take k (month_lengths_by b))) (get_or plain_sums k 0 + cond (ltb 1 k && b) 1 0)
    (passes_both (λ b k. eqb (sum (take k (month_lengths_by b))) (get_or plain_sums k 0 + cond (ltb 1 k && b) 1 0)) 12 refl refl b k h)

-- the days before a month, by the table and the leap day
pub days_before_month_is : (y m : ℕ) → 1 ≤ m → m ≤ 12 → days_before_month y m ≡ get_or plain_sums (m - 1) 0 + cond (ltb 1 (m - 1) && is_leap y) 1 0
unfolding days_before_month month_lengths
days_before_month_is y m low high = sums_at (is_leap y) (m - 1) (omega arith)

-- the months before a month have 31 days each at most
pub days_before_month_at_most : (y m : ℕ) → 1 ≤ m → m ≤ 12 → days_before_month y m ≤ 31 * (m - 1)
unfolding days_before_month month_lengths
days_before_month_at_most y m low high =
    leb-true (sum (take (m - 1) (month_lengths_by (is_leap y)))) (31 * (m - 1))
    (passes_both (λ b k. leb (sum (take k (month_lengths_by b))) (31 * k)) 12 refl refl (is_leap y) (m - 1) (omega arith))

-- the first k + 2 months have at least what k + 1 months of 31 days would have
pub days_before_month_at_least : (y k : ℕ) → k < 11 → 31 * (k + 1) ≤ days_before_month y (k + 1 + 1 + 1)
unfolding days_before_month month_lengths
days_before_month_at_least y k h =
    let months : k + 1 + 1 + 1 - 1 ≡ k + 2 = omega arith in
    rw months (leb-true (31 * (k + 1)) (sum (take (k + 2) (month_lengths_by (is_leap y))))
    (passes_both (λ b k. leb (31 * (k + 1)) (sum (take (k + 2) (month_lengths_by b)))) 11 refl refl (is_leap y) k h))

-- the days before a month, and that month's own, are the days before the next
pub days_before_next_month : (y m : ℕ) → 1 ≤ m → m ≤ 12 → days_before_month y (m + 1) ≡ days_before_month y m + month_length y m
unfolding days_before_month month_length month_lengths
days_before_next_month y m low high =
    let one_more : m + 1 - 1 ≡ m - 1 + 1 = omega arith in
    rw one_more (sum_by_more (λ x. x) (month_lengths_by (is_leap y)) (m - 1) 0 (omega arith))

-- no day comes before January
pub days_before_january : (y : ℕ) → days_before_month y 1 ≡ 0
unfolding days_before_month
days_before_january y = refl

-- all months together are the year
pub days_before_all_months : (y : ℕ) → days_before_month y 13 ≡ year_length y
unfolding days_before_month year_length month_lengths
days_before_all_months y = refl

-- a year has 366 days at most
pub year_length_short : (y : ℕ) → year_length y ≤ 366
unfolding year_length month_lengths
year_length_short y = elim (is_leap y) as (λ b. sum (month_lengths_by b) ≤ 366) [ true ↦ omega arith | false ↦ omega arith ]

-- the days before a later month are no fewer
pub days_before_month_grows : (y m n : ℕ) → m ≤ n → days_before_month y m ≤ days_before_month y n
unfolding days_before_month
days_before_month_grows y m n h =
    let within : m - 1 ≤ n - 1 = omega arith in
    rw (take-take (m - 1) (n - 1) (month_lengths y) within) at (sum_by-take-le (λ x. x) (take (n - 1) (month_lengths y)) (m - 1))

-- the year ends with December
pub december_ends : (y m : ℕ) → m ≡ 12 → days_before_month y m + month_length y m ≡ year_length y
december_ends y m e = rw e (sym (days_before_next_month y 12 (omega arith) (omega arith)) ∙ days_before_all_months y)
