-- Adjustments, and the lists that stages write. Assumes nothing.
use Rattle.std.proofs.Common.{◌≡◌, ℕ, ◌+◌, ◌-◌, ◌<◌, ℤ, pos, ◌+ℤ◌, ◌-ℤ◌, List, [], ◌∷◌, ◌++◌, length, get_or, take, set, drop, sym, ap, ◌∙◌, arith}
use lib.Seq.{paste}
use Rattle.std.proofs.lemmas.Int.{ints}
use Rattle.std.proofs.lemmas.List.Edits.{paste_all, paste_more}
use Rattle.std.proofs.lemmas.List.FromFn.{get_or-map-range_with_len, length-map-range_with_len}
use Rattle.std.proofs.lemmas.List.{get_or-append_right, get_or_append_left, drop-drop, take-append-le, take_all}
use Rattle.std.proofs.Math.Seq.{drop-append_seam}
use Rattle.std.proofs.lemmas.Slice.{drop-append-drop}
use Rattle.statements.specs.Laws.{adjustments_sum, last_of}
use Rattle.statements.specs.Lists.{listed, shown_at}
use Rattle.statements.specs.declared.sums.Sums.{Sums}

-- the 17 numbers of a function
pub length_listed : (f : ℕ → ℤ) → length (listed f) ≡ 17
unfolding listed
length_listed f = length-map-range_with_len f 0 17

pub at_listed : (f : ℕ → ℤ) (k : ℕ) (d : ℤ) → k < 17 → get_or (listed f) k d ≡ f k
unfolding listed
at_listed f k d below = get_or-map-range_with_len f 0 17 k k d below (omega arith)

-- written one after another into a list
pub written_more : (f : ℕ → ℤ) (old : List ℤ) (from i : ℕ) (x : ℤ) → from + i < length old → i < 17 → x ≡ f i → set (paste old from (listed f) i) (from + i) x ≡ paste old from (listed f) (i + 1)
written_more f old from i x within below is =
    let inside : i < length (listed f) = omega (arith, length_listed f) in
    ap (set (paste old from (listed f) i) (from + i)) (is ∙ sym (at_listed f i (pos 0) below)) ∙ paste_more old from (listed f) i (pos 0) within inside

pub written_all : (f : ℕ → ℤ) (old : List ℤ) (from : ℕ) → paste old from (listed f) 17 ≡ take from old ++ (listed f ++ drop (from + 17) old)
written_all f old from = paste_all old from (listed f) 17 (sym (length_listed f))

-- a second row of 17 after a first
pub second_row : (f g : ℕ → ℤ) (old : List ℤ) → take 17 (listed f ++ drop 17 old) ++ (listed g ++ drop 34 (listed f ++ drop 17 old)) ≡ listed f ++ (listed g ++ drop 34 old)
second_row f g old =
    let front : take 17 (listed f ++ drop 17 old) ≡ listed f = take-append-le 17 (listed f) (drop 17 old) (omega (arith, length_listed f)) ∙ take_all 17 (listed f) (omega (arith, length_listed f)) in
    let back : drop 34 (listed f ++ drop 17 old) ≡ drop 34 old = drop-append-drop 17 old (listed f) 34 (omega arith) (length_listed f) in
    λ i. front i ++ (listed g ++ back i)

-- a list that begins with two rows of 17
module _ (f g : ℕ → ℤ) (rest : List ℤ) where
  pub in_first_row : (k : ℕ) → k < 17 → get_or (listed f ++ (listed g ++ rest)) k (pos 0) ≡ f k
  in_first_row k below = get_or_append_left (listed f) (listed g ++ rest) (pos 0) k (omega (arith, length_listed f)) ∙ at_listed f k (pos 0) below

  pub in_next_row : (k : ℕ) → k < 17 → get_or (listed f ++ (listed g ++ rest)) (17 + k) (pos 0) ≡ g k
  in_next_row k below =
      let at : 17 + k - 17 ≡ k = omega arith in
      get_or-append_right (listed f) (listed g ++ rest) 17 (17 + k) (pos 0) (length_listed f) (omega arith)
      ∙ ap (λ n. get_or (listed g ++ rest) n (pos 0)) at
      ∙ get_or_append_left (listed g) rest (pos 0) k (omega (arith, length_listed g))
      ∙ at_listed g k (pos 0) below

  pub past_both : drop 34 (listed f ++ (listed g ++ rest)) ≡ rest
  past_both =
      let one : drop 17 (listed f ++ (listed g ++ rest)) ≡ listed g ++ rest = passed (listed f) (listed g ++ rest) (length_listed f) in
      let two : drop 17 (listed g ++ rest) ≡ rest = passed (listed g) rest (length_listed g) in
      sym (drop-drop 17 17 (listed f ++ (listed g ++ rest))) ∙ ap (drop 17) one ∙ two
    where
      passed : (xs ys : List ℤ) → length xs ≡ 17 → drop 17 (xs ++ ys) ≡ ys
      passed xs ys long = ap (λ n. drop n (xs ++ ys)) (sym long) ∙ drop-append_seam xs ys

-- an adjustment added to the old sum gives the new
pub leads_on : (a b : ℤ) → a +ℤ (b -ℤ a) ≡ b
leads_on a b = omega (arith, ints)

-- the adjustments of all stages added to the first sum give the last
pub add_up : (first : Sums) (later : List Sums) (place : ℕ) → shown_at first place +ℤ adjustments_sum first later place ≡ shown_at (last_of first later) place
add_up first [] place = omega (arith, ints)
add_up first (next ∷ later) place =
    let on = add_up next later place in
    omega (arith, ints, on)
