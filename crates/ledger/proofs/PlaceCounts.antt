-- Readings counted, freed and put into places. Assumes nothing.
use Rattle.std.proofs.Common.{◌≡◌, ℕ, suc, ◌+◌, ◌<◌, ◌≤◌, Bool, true, false, cond, not, ◌&&◌, ◌||◌, leb, ltb, List, [], ◌∷◌, map, length, get_or, set, is_some, Some, None, count_by, filter, Option, sym, refl, ap, ◌∙◌, ⊎_elim, zero-add, arith, length-set}
use Rattle.std.proofs.lemmas.List.Sums.{count_by-le-length, sum_by-cons, sum_by-set}
use Rattle.std.proofs.lemmas.Bool.{cases_lt, le-leb, lt-leb, lt-ltb, true≢false}
use Rattle.std.specs.List.{list_all, list_any}
use Rattle.std.specs.Option.{MatchOption}
use Rattle.rules.specs.Readings.{replaces}
use Rattle.rules.specs.declared.entry.Reading.{Reading}
use Rattle.ledger.specs.Places.{IsTestOf, TakesPlace, freed_place, holds_passing}

-- the count of a list with one more in front
pub count_cons : {X : Type 0} (p : X → Bool) (x : X) (xs : List X)
    → count_by p (x ∷ xs) ≡ cond (p x) 1 0 + count_by p xs
count_cons p x xs = sum_by-cons (λ y. cond (p y) 1 0) x xs

-- what a place says of its reading, by a test that answers as a predicate does
pub placed_as : (passes : Reading → Bool) (place : Option Reading) (b : Bool) (answers : Reading → Bool → Type 0)
    → MatchOption place (b ≡ false) (λ r. answers r b) → IsTestOf answers passes
    → b ≡ holds_passing passes place
placed_as passes None b answers is same = is
placed_as passes (Some r) b answers is same = same r b is

some_here : (b rest : Bool) (n : ℕ) → rest ≡ ltb 0 n → (b || rest) ≡ ltb 0 (cond b 1 0 + n)
some_here true rest n e = sym (lt-ltb 0 (1 + n) (omega arith))
some_here false rest n e = rw (zero-add n) e

-- some reading passes where more than none does
pub some_counted : (test : Reading → Bool) (rs : List Reading) → list_any test rs ≡ ltb 0 (count_by test rs)
some_counted test [] = refl
some_counted test (r ∷ rs) = some_here (test r) _ _ (some_counted test rs) ∙ ap (λ n. ltb 0 n) (sym (count_cons test r rs))

-- and so of any test of places
pub any_counted : {X : Type 0} (p : X → Bool) (xs : List X) → list_any p xs ≡ ltb 0 (count_by p xs)
any_counted p [] = refl
any_counted p (x ∷ xs) = some_here (p x) _ _ (any_counted p xs) ∙ ap (λ n. ltb 0 n) (sym (count_cons p x xs))

all_here : (b rest : Bool) (n many : ℕ) → n ≤ many → rest ≡ leb many n → (b && rest) ≡ leb (suc many) (cond b 1 0 + n)
all_here true rest n many few e =
    e
    ∙ ⊎_elim
    (λ (less : n < many). lt-leb many n less ∙ sym (lt-leb (suc many) (1 + n) (omega arith)))
    (λ (all : many ≤ n). le-leb many n all ∙ sym (le-leb (suc many) (1 + n) (omega arith))) (cases_lt n many)
all_here false rest n many few e = sym (lt-leb (suc many) (0 + n) (omega arith))

-- every place passes where as many do as there are
pub all_counted : {X : Type 0} (p : X → Bool) (xs : List X) → list_all p xs ≡ leb (length xs) (count_by p xs)
all_counted p [] = refl
all_counted p (x ∷ xs) =
    all_here (p x) _ _ (length xs) (count_by-le-length p xs) (all_counted p xs) ∙ ap (λ n. leb (length (x ∷ xs)) n) (sym (count_cons p x xs))

kept_here : {X : Type 0} (p : X → Bool) (x : X) (xs : List X) (b : Bool)
    → count_by p (cond b (x ∷ xs) xs) ≡ cond (b && p x) 1 0 + count_by p xs
kept_here p x xs true = count_cons p x xs
kept_here p x xs false = sym (zero-add (count_by p xs))

-- what is counted of kept readings
pub count_kept : {X : Type 0} (p keep : X → Bool) (xs : List X)
    → count_by p (filter keep xs) ≡ count_by (λ x. keep x && p x) xs
count_kept p keep [] = refl
count_kept p keep (x ∷ xs) =
    kept_here p x (filter keep xs) (keep x) ∙ ap (λ n. cond (keep x && p x) 1 0 + n) (count_kept p keep xs) ∙ sym (count_cons (λ y. keep y && p y) x xs)

left_where : (test : Reading → Bool) (old : Reading) (b : Bool)
    → holds_passing test (cond b None (Some old)) ≡ (not b && test old)
left_where test old true = refl
left_where test old false = refl

left_passes : (new : Reading) (test : Reading → Bool) (place : Option Reading)
    → holds_passing test (freed_place new place) ≡ holds_passing (λ old. not (replaces new old) && test old) place
left_passes new test None = refl
left_passes new test (Some old) = left_where test old (replaces new old)

-- what is counted of the places that a new reading leaves
pub count_left : (new : Reading) (test : Reading → Bool) (places : List (Option Reading))
    → count_by (holds_passing test) (map (freed_place new) places) ≡ count_by (holds_passing (λ old. not (replaces new old) && test old)) places
count_left new test [] = refl
count_left new test (place ∷ places) =
    count_cons (holds_passing test) (freed_place new place) (map (freed_place new) places)
    ∙ ap (λ b. cond b 1 0 + count_by (holds_passing test) (map (freed_place new) places)) (left_passes new test place)
    ∙ ap (λ n. cond (holds_passing (λ old. not (replaces new old) && test old) place) 1 0 + n) (count_left new test places)
    ∙ sym (count_cons (holds_passing (λ old. not (replaces new old) && test old)) place places)

-- what a place adds to a count
abbrev counted : (Reading → Bool) → Option Reading → ℕ
counted test place = cond (holds_passing test place) 1 0

abbrev taken_by_one : Option Reading → ℕ
taken_by_one place = cond (is_some place) 1 0

-- what is counted once a reading has taken a free place
pub count_taken : (r : Reading) (test : Reading → Bool) (old new : List (Option Reading))
    → TakesPlace r old new
    → count_by (holds_passing test) new ≡ count_by (holds_passing test) old + cond (test r) 1 0
count_taken r test old new (k, within, free, is) =
    let set_one = sum_by-set (counted test) old k (Some r) None within in
    let was_none = ap (counted test) free in
    ap (λ places. count_by (holds_passing test) places) is ∙ omega (arith, set_one, was_none)

pub none_since : {X : Type 0} (o : Option X) → is_some o ≡ false → o ≡ None
none_since None e = refl
none_since (Some x) e = absurd (true≢false e)

-- places that are all taken have none free
pub all_taken : (places : List (Option Reading))
    → ((k : ℕ) → k < length places → is_some (get_or places k None) ≡ true)
    → count_by is_some places ≡ length places
all_taken [] every = refl
all_taken (place ∷ places) every =
    let rest = all_taken places (λ k below. every (suc k) (omega arith)) in
    count_cons is_some place places ∙ rw (every 0 (omega arith)) (omega (arith, rest))

-- a free place leaves fewer taken than there are
pub one_free : (places : List (Option Reading)) (k : ℕ) (r : Reading) → k < length places
    → get_or places k None ≡ None → count_by is_some places < length places
one_free places k r within free =
    let one_more = sum_by-set taken_by_one places k (Some r) None within in
    let none = ap (taken_by_one) free in
    omega (arith, one_more, none, count_by-le-length is_some (set places k (Some r)), length-set places k (Some r))

some_placed : (place : Option Reading) → is_some place ≡ holds_passing (λ _. true) place
some_placed None = refl
some_placed (Some r) = refl

-- a count by two tests that agree
pub count_same : {X : Type 0} (p q : X → Bool) → ((x : X) → p x ≡ q x) → (xs : List X) → count_by p xs ≡ count_by q xs
count_same p q same [] = refl
count_same p q same (x ∷ xs) =
    count_cons p x xs ∙ ap (λ b. cond b 1 0 + count_by p xs) (same x) ∙ ap (λ n. cond (q x) 1 0 + n) (count_same p q same xs) ∙ sym (count_cons q x xs)

and_true : (b : Bool) → (b && true) ≡ b
and_true true = refl
and_true false = refl

kept_placed : (new : Reading) (place : Option Reading)
    → holds_passing (λ old. not (replaces new old) && true) place ≡ holds_passing (λ old. not (replaces new old)) place
kept_placed new None = refl
kept_placed new (Some old) = and_true (not (replaces new old))

-- the places that stay taken are those of the readings that are kept
pub taken_left : (new : Reading) (places : List (Option Reading))
    → count_by is_some (map (freed_place new) places) ≡ count_by (holds_passing (λ old. not (replaces new old))) places
taken_left new places =
    count_same is_some (holds_passing (λ _. true)) some_placed (map (freed_place new) places) ∙ count_left new (λ _. true) places ∙ count_same _ _ (kept_placed new) places
