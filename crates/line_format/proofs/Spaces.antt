-- Laws of leading spaces. Assumes nothing.
use Rattle.std.proofs.Common.{◌≡◌, ℕ, zero, suc, ◌+◌, ◌≤◌, Bool, true, false, cond, not, eqb, ltb, List, [], ◌∷◌, ◌++◌, length, get_or, drop, replicate, Some, None, Option, unwrap_or, sym, refl, ap, arith}
use Rattle.std.specs.List.{position_or_len}
use Rattle.std.proofs.lemmas.Bool.{eqb-true}
use Rattle.std.proofs.lemmas.Bool.Decides.{nat_tests}
use Rattle.std.proofs.lemmas.List.Sums.{prefix_len-le-length}

-- how many spaces stand before the first other byte
abbrev before_other : List ℕ → ℕ
before_other xs = position_or_len (λ b. not (eqb b 32)) xs

one_before : (b : Bool) (x n : ℕ) (xs : List ℕ) → (b ≡ true → x ≡ 32) → xs ≡ replicate n 32 ++ drop n xs → x ∷ xs ≡ replicate (cond (not (not b)) (1 + n) 0) 32 ++ drop (cond (not (not b)) (1 + n) 0) (x ∷ xs)
one_before true x n xs space e =
    let more : 1 + n ≡ suc n = omega arith in
    let same = space refl in
    rw (more, same) (ap (λ ys. 32 ∷ ys) e)
one_before false x n xs space e = refl

pub spaces_first : (xs : List ℕ) → xs ≡ replicate (before_other xs) 32 ++ drop (before_other xs) xs
spaces_first [] = refl
spaces_first (x ∷ xs) = one_before (eqb x 32) x (before_other xs) xs (eqb-true x 32) (spaces_first xs)

unwrapped : (i n : ℕ) → i ≤ n → unwrap_or (cond (ltb i n) (Some i) None) n ≡ i
unwrapped i n h = grind (arith, nat_tests)

pub spaces_found : (xs : List ℕ) (r : Option ℕ) → r ≡ cond (ltb (before_other xs) (length xs)) (Some (before_other xs)) None → unwrap_or r (length xs) ≡ before_other xs
spaces_found xs r e = rw e (unwrapped (before_other xs) (length xs) (prefix_len-le-length _ xs))

-- spaces before what begins with none can be told apart from it
pub spaces_apart : (a b : ℕ) (xs ys : List ℕ) → (get_or xs 0 0 ≡ 32 → ⊥) → (get_or ys 0 0 ≡ 32 → ⊥) → replicate a 32 ++ xs ≡ replicate b 32 ++ ys → (a ≡ b) × (xs ≡ ys)
spaces_apart zero zero xs ys p q e = (refl, e)
spaces_apart zero (suc b) xs ys p q e = absurd (p (ap (λ l. get_or l 0 0) e))
spaces_apart (suc a) zero xs ys p q e = absurd (q (sym (ap (λ l. get_or l 0 0) e)))
spaces_apart (suc a) (suc b) xs ys p q e =
    let f : replicate a 32 ++ xs ≡ replicate b 32 ++ ys = cc in
    let r = spaces_apart a b xs ys p q f in
    (ap suc r.0, r.1)
