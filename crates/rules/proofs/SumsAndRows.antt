-- Sums and rows over a run of numbers, and values that are there or not.
use Rattle.std.proofs.Common.{◌≡◌, ℕ, zero, suc, ◌+◌, ◌-◌, ◌<◌, ◌≤◌, cond, eqb, List, [], ◌∷◌, map, length, get_or, Some, None, sum, Option, sym, refl, ap, ◌∙◌, ap₂, ⊎_elim, arith}
use Rattle.std.specs.List.{range_with_len}
use Rattle.std.specs.Option.{option_map}
use Rattle.std.proofs.lemmas.List.FromFn.{get_or-map-range_with_len, length-map-range_with_len}
use Rattle.std.proofs.lemmas.List.{ext_get_or}
use Rattle.std.proofs.lemmas.List.Sums.{sum_by-cons}
use Rattle.std.proofs.lemmas.Bool.{cases_eq, cond-false, cond-true, eq-eqb, ne_eqb}

-- two functions that agree on a run of numbers make the same row of it
pub map_over : {X : Type 0} (f g : ℕ → X) (a n : ℕ)
    → ((k : ℕ) → a ≤ k → k < a + n → f k ≡ g k) → map f (range_with_len a n) ≡ map g (range_with_len a n)
map_over f g a zero same = refl
map_over f g a (suc n) same =
    ap₂ ◌∷◌ (same a (omega arith) (omega arith))
    (map_over f g (a + 1) n (λ k low high. same k (omega arith) (omega arith)))

-- the sum of two rows is the row of sums
pub sum_added : {X : Type 0} (f g : X → ℕ) (xs : List X)
    → sum (map (λ x. f x + g x) xs) ≡ sum (map f xs) + sum (map g xs)
sum_added f g [] = refl
sum_added f g (x ∷ xs) =
    omega (
      arith,
      sum_added f g xs,
      sum_by-cons (λ y. y) (f x + g x) (map (λ y. f y + g y) xs),
      sum_by-cons (λ y. y) (f x) (map f xs),
      sum_by-cons (λ y. y) (g x) (map g xs),
    )

-- the sum of a row of zeros
pub sum_zeros : {X : Type 0} (xs : List X) → sum (map (λ x. 0) xs) ≡ 0
sum_zeros [] = refl
sum_zeros (x ∷ xs) = omega (arith, sum_zeros xs, sum_by-cons (λ y. y) 0 (map (λ y. 0) xs))

-- a row of n is its elements at 1 to n, counted from 1
pub row_from_one : (xs : List ℕ) (n : ℕ) → length xs ≡ n → map (λ p. get_or xs (p - 1) 0) (range_with_len 1 n) ≡ xs
row_from_one xs n e =
    ext_get_or 0 (map (λ p. get_or xs (p - 1) 0) (range_with_len 1 n)) xs
    (length-map-range_with_len (λ p. get_or xs (p - 1) 0) 1 n ∙ sym e)
    (λ k h.
    let low : k < n = omega (arith, length-map-range_with_len (λ p. get_or xs (p - 1) 0) 1 n) in
    let place : (k + 1) - 1 ≡ k = omega arith in
    get_or-map-range_with_len (λ p. get_or xs (p - 1) 0) 1 n k (k + 1) 0 low (omega arith)
    ∙ ap (λ j. get_or xs j 0) place)

-- two functions that agree on a value, where there is one, map it alike
pub mapped_over : {X Y : Type 0} (f g : X → Y) (o : Option X)
    → ((x : X) → o ≡ Some x → f x ≡ g x) → option_map f o ≡ option_map g o
mapped_over f g None same = refl
mapped_over f g (Some x) same = ap Some (same x refl)

-- a number before a run is none of it
sum_before : (a n j f : ℕ) → j < a → sum (map (λ k. cond (eqb j k) f 0) (range_with_len a n)) ≡ 0
sum_before a n j f before =
    ap sum (map_over (λ k. cond (eqb j k) f 0) (λ k. 0) a n
    (λ k low high. cond-false (eqb j k) f 0 (ne_eqb j k (λ e. omega arith))))
    ∙ sum_zeros (range_with_len a n)

-- a number of a run is met once in it
pub sum_once : (a n j f : ℕ) → a ≤ j → j < a + n → sum (map (λ k. cond (eqb j k) f 0) (range_with_len a n)) ≡ f
sum_once a zero j f low high = absurd (omega arith)
sum_once a (suc n) j f low high =
    let first = sum_by-cons (λ y. y) (cond (eqb j a) f 0) (map (λ k. cond (eqb j k) f 0) (range_with_len (a + 1) n)) in
    ⊎_elim
    (λ same. omega (arith, first, cond-true (eqb j a) f 0 (eq-eqb j a same), sum_before (a + 1) n j f (omega arith)))
    (λ other.
    omega (
      arith,
      first,
      cond-false (eqb j a) f 0 (ne_eqb j a other),
      sum_once (a + 1) n j f (omega arith) (omega arith),
    ))
    (cases_eq j a)

-- a table comes to the same by its rows and by its columns
pub sum_swap : {X Y : Type 0} (f : X → Y → ℕ) (xs : List X) (ys : List Y)
    → sum (map (λ x. sum (map (λ y. f x y) ys)) xs) ≡ sum (map (λ y. sum (map (λ x. f x y) xs)) ys)
sum_swap f [] ys = sym (sum_zeros ys)
sum_swap f (x ∷ xs) ys =
    sum_by-cons (λ n. n) (sum (map (λ y. f x y) ys)) (map (λ z. sum (map (λ y. f z y) ys)) xs)
    ∙ ap (λ n. sum (map (λ y. f x y) ys) + n) (sum_swap f xs ys)
    ∙ sym (sum_added (λ y. f x y) (λ y. sum (map (λ z. f z y) xs)) ys)
    ∙ sym (λ i. sum (map (λ y. sum_by-cons (λ n. n) (f x y) (map (λ z. f z y) xs) i) ys))
