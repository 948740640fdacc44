-- Rows that take their shares one after the other. Assumes nothing.
use Rattle.std.proofs.Common.{◌≡◌, ℕ, zero, suc, ◌+◌, ◌<◌, ◌≤◌, List, [], ◌∷◌, map, length, get_or, take, set, refl, ap, le_of_suc-le-suc, not-suc-le-zero, add-one, arith}
use Rattle.allocation.specs.Row.{rows_with_shares}

module _ {R : Type 0} (takes : R → ℕ → R) where
  pub rows_with_shares_none : (rs : List R) → rows_with_shares takes rs [] ≡ rs
  rows_with_shares_none [] = refl
  rows_with_shares_none (r ∷ rs) = refl

  -- a row past the last share is as it was
  pub rows_with_shares_past : (rs : List R) (ss : List ℕ) (k : ℕ) (d : R) → length ss ≤ k → get_or (rows_with_shares takes rs ss) k d ≡ get_or rs k d
  rows_with_shares_past [] ss k d h = refl
  rows_with_shares_past (r ∷ rs) [] k d h = refl
  rows_with_shares_past (r ∷ rs) (s ∷ ss) zero d h = absurd (not-suc-le-zero h)
  rows_with_shares_past (r ∷ rs) (s ∷ ss) (suc k) d h = rows_with_shares_past rs ss k d (le_of_suc-le-suc h)

  rows_with_shares_next : (rs : List R) (ss : List ℕ) (i : ℕ) (d : R) → i < length ss → rows_with_shares takes rs (take (suc i) ss) ≡ set (rows_with_shares takes rs (take i ss)) i (takes (get_or rs i d) (get_or ss i 0))
  rows_with_shares_next [] ss i d h = refl
  rows_with_shares_next (r ∷ rs) [] i d h = absurd (not-suc-le-zero h)
  rows_with_shares_next (r ∷ rs) (s ∷ ss) zero d h = ap (λ l. takes r s ∷ l) (rows_with_shares_none rs)
  rows_with_shares_next (r ∷ rs) (s ∷ ss) (suc i) d h = ap (λ l. takes r s ∷ l) (rows_with_shares_next rs ss i d (le_of_suc-le-suc h))

  -- row i takes its share
  pub rows_with_shares_more : (rs : List R) (ss : List ℕ) (i : ℕ) (d : R) → i < length ss → rows_with_shares takes rs (take (i + 1) ss) ≡ set (rows_with_shares takes rs (take i ss)) i (takes (get_or rs i d) (get_or ss i 0))
  rows_with_shares_more rs ss i d h = rw add-one (rows_with_shares_next rs ss i d h)

  -- what no share changes stands in every row
  pub rows_with_shares_keep : {X : Type 0} (f : R → X) → ((r : R) (s : ℕ) → f (takes r s) ≡ f r) → (rs : List R) (ss : List ℕ) → map f (rows_with_shares takes rs ss) ≡ map f rs
  rows_with_shares_keep f same [] ss = refl
  rows_with_shares_keep f same (r ∷ rs) [] = refl
  rows_with_shares_keep f same (r ∷ rs) (s ∷ ss) = cc (same r s, rows_with_shares_keep f same rs ss)

  -- what shows a row's share shows the shares
  pub rows_with_shares_show : (f : R → ℕ) → ((r : R) (s : ℕ) → f (takes r s) ≡ s) → (rs : List R) (ss : List ℕ) → length ss ≡ length rs → map f (rows_with_shares takes rs ss) ≡ ss
  rows_with_shares_show f shows [] [] e = refl
  rows_with_shares_show f shows [] (s ∷ ss) e = absurd (omega arith)
  rows_with_shares_show f shows (r ∷ rs) [] e = absurd (omega arith)
  rows_with_shares_show f shows (r ∷ rs) (s ∷ ss) e = cc (shows r s, rows_with_shares_show f shows rs ss (omega arith))
