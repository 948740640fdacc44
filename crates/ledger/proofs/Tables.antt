-- What is read from a table after one of its entries is written. Assumes nothing.
use Rattle.std.proofs.Common.{◌≡◌, ℕ, ◌<◌, Bool, true, false, cond, T, List, length, get_or, take, set, Some, None, Option, unwrap_or, refl, get_or-set_other, get_or-set_same}
use lib.Seq.{take-set-lt}
use Rattle.std.proofs.lemmas.Bool.{false≢true}
use Rattle.std.specs.Option.{option_or}
use Rattle.std.specs.List.{list_all}
use Rattle.estimators.proofs.Tables.{written_passes}

-- the written entry where it is asked for, else what was read before
pub put_read : {X : Type 0} (xs : List X) (d y : X) (t same : Bool) (i j : ℕ)
    → (same ≡ true → (t ≡ true) × (j ≡ i)) → (same ≡ false → t ≡ true → j ≡ i → ⊥) → i < length xs
    → cond t (get_or (set xs i y) j d) d ≡ cond same y (cond t (get_or xs j d) d)
put_read xs d y true true i j is_same else_not within = rw (is_same refl).1 (get_or-set_same xs i y d within)
put_read xs d y false true i j is_same else_not within = absurd (false≢true (is_same refl).0)
put_read xs d y true false i j is_same else_not within = get_or-set_other xs i j y d (else_not refl refl)
put_read xs d y false false i j is_same else_not within = refl

-- what the newest entry says, where it says something
pub or_other : {X : Type 0} (same : Bool) (x : X) (said : Option X)
    → cond same (Some x) said ≡ option_or (cond same (Some x) None) said
or_other true x said = refl
or_other false x said = refl

pub or_value : {X : Type 0} (same : Bool) (x d : X) (said : Option X)
    → cond same x (unwrap_or said d) ≡ unwrap_or (option_or (cond same (Some x) None) said) d
or_value true x d said = refl
or_value false x d said = refl

-- the front of a table passes a test after an entry of it that passes is written
pub front_passes : {X : Type 0} (p : X → Bool) (n : ℕ) (xs : List X) (i : ℕ) (y : X) → i < n
    → T (p y) → T (list_all p (take n xs)) → T (list_all p (take n (set xs i y)))
front_passes p n xs i y within passes all = rw (take-set-lt n xs i y within) (written_passes p (take n xs) i y passes all)
