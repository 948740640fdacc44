-- Sums over days. Assumes nothing.
use Rattle.std.proofs.Common.{◌≡◌, ℕ, zero, suc, ◌+◌, ◌-◌, ◌*◌, ◌<◌, ◌≤◌, ◌^◌, min, sym, refl, ap, ◌∙◌, subst, arith}
use Rattle.std.proofs.lemmas.List.FromFn.{sum_by-map-range_with_len_more}
use Rattle.rules.proofs.Bounds.{sum_bounded}
use Rattle.statements.specs.Spans.{sum_over}
use Rattle.statements.specs.Limits.{largest_statement_sum}

pub of_none : (f : ℕ → ℕ) (d : ℕ) → sum_over f d 0 ≡ 0
unfolding sum_over
of_none f d = refl

pub of_one_more : (f : ℕ → ℕ) (d n : ℕ) → sum_over f d (n + 1) ≡ sum_over f d n + f (d + n)
unfolding sum_over
of_one_more f d n = sum_by-map-range_with_len_more (λ x. x) f d n (d + n) refl

of_next : (f : ℕ → ℕ) (d n : ℕ) → sum_over f d (suc n) ≡ sum_over f d n + f (d + n)
of_next f d n = let e : suc n ≡ n + 1 = omega arith in ap (sum_over f d) e ∙ of_one_more f d n

pub of_parts : (f : ℕ → ℕ) (d m n : ℕ) → sum_over f d (m + n) ≡ sum_over f d m + sum_over f (d + m) n
of_parts f d m zero = let e : m + 0 ≡ m = omega arith in omega (arith, ap (sum_over f d) e, of_none f (d + m))
of_parts f d m (suc n) =
    let e : m + suc n ≡ suc (m + n) = omega arith in
    let day : d + (m + n) ≡ d + m + n = omega arith in
    omega (arith, ap (sum_over f d) e, of_next f d (m + n), of_next f (d + m) n, of_parts f d m n, ap f day)

pub of_alike : (f g : ℕ → ℕ) (d n : ℕ) → ((k : ℕ) → k < n → f (d + k) ≡ g (d + k)) → sum_over f d n ≡ sum_over g d n
of_alike f g d zero alike = of_none f d ∙ sym (of_none g d)
of_alike f g d (suc n) alike =
    omega (arith, of_next f d n, of_next g d n, of_alike f g d n (λ k below. alike k (omega arith)), alike n (omega arith))

pub at_most : (f : ℕ → ℕ) (d n most : ℕ) → ((k : ℕ) → k < n → f (d + k) ≤ most) → sum_over f d n ≤ n * most
unfolding sum_over
at_most f d n most within =
    sum_bounded f most d n
    (λ k low high.
    let there : d + (k - d) ≡ k = omega arith in
    subst (λ (x : ℕ). f x ≤ most) there (within (k - d) (omega arith)))

-- a running sum that is counted to the largest stays so
pub counted_more : (f : ℕ → ℕ) (d n total x : ℕ) → total ≡ min (sum_over f d n) largest_statement_sum → x ≡ f (d + n) → min (min (total + x) (2 ^ 64 - 1)) largest_statement_sum ≡ min (sum_over f d (n + 1)) largest_statement_sum
counted_more f d n total x before is = omega (arith, of_one_more f d n)

-- a sum within the limit is counted whole
pub whole : (f : ℕ → ℕ) (d e n m : ℕ) → d ≡ e → n ≡ m → sum_over f e m ≤ largest_statement_sum → min (sum_over f d n) largest_statement_sum ≡ sum_over f e m
whole f d e n m same_first same_count within =
    let same : sum_over f d n ≡ sum_over f e m = λ i. sum_over f (same_first i) (same_count i) in
    omega (arith, same)
