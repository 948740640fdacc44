-- A table that passes the test has the season term of each day at that day's place.
use Rattle.std.proofs.Common.{◌≡◌, ℕ, zero, suc, ◌+◌, ◌-◌, ◌<◌, ◌≤◌, true, true≢false, List, [], ◌∷◌, length}
use Rattle.std.proofs.Common.{get_or, ℤ, pos, negsuc, sym, ap, ◌∙◌, le_of_suc-le-suc, not-suc-le-zero, add-zero}
use Rattle.std.proofs.Common.{add-suc, suc-add, arith}
use Rattle.std.proofs.lemmas.Bool.{and_parts, eqb-true}
use Rattle.estimates.specs.SeasonTerm.{season_term, equal, are_season_terms}

equal_is : (a b : ℤ) → equal a b ≡ true → a ≡ b
equal_is (pos a) (pos b) t = ap pos (eqb-true a b t)
equal_is (pos a) (negsuc b) t = absurd (true≢false (sym t))
equal_is (negsuc a) (pos b) t = absurd (true≢false (sym t))
equal_is (negsuc a) (negsuc b) t = ap negsuc (eqb-true a b t)

-- the entry k places on, where the first entry's day is n
entry_from : (xs : List ℤ) (n : ℕ) → are_season_terms n xs ≡ true → (k : ℕ) → k < length xs → get_or xs k (pos 0) ≡ season_term (n + k)
entry_from [] n t k h = absurd (not-suc-le-zero h)
entry_from (x ∷ xs) n t zero h = equal_is x (season_term n) (and_parts _ _ t).0 ∙ ap season_term (sym (add-zero n))
entry_from (x ∷ xs) n t (suc k) h =
    entry_from xs (suc n) (and_parts _ _ t).1 k (le_of_suc-le-suc h) ∙ ap season_term (suc-add n k ∙ sym (add-suc n k))

-- the entry of day n, where the first entry's day is 1
pub entry_at : (xs : List ℤ) → are_season_terms 1 xs ≡ true → (n : ℕ) → 1 ≤ n → n ≤ length xs → get_or xs (n - 1) (pos 0) ≡ season_term n
entry_at xs t n low high =
    let place : n - 1 < length xs = omega arith in
    let day : 1 + (n - 1) ≡ n = omega arith in
    entry_from xs 1 t (n - 1) place ∙ ap season_term day
