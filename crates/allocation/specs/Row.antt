-- Rows that take their shares.
use Rattle.std.specs.Prelude.{ℕ, List, [], ◌∷◌}

-- each row with its share, by the word that says what a share leaves of a row; a row without a share is as it was
abbrev pub rows_with_shares : {R : Type 0} → (R → ℕ → R) → List R → List ℕ → List R
rows_with_shares with_share [] ss = []
rows_with_shares with_share (r ∷ rs) [] = r ∷ rs
rows_with_shares with_share (r ∷ rs) (s ∷ ss) = with_share r s ∷ rows_with_shares with_share rs ss
