-- A ledger that opens has been told nothing. Assumes nothing.
use Rattle.std.proofs.Common.{◌≡◌, ℕ, zero, suc, ◌+◌, ◌-◌, ◌*◌, ◌<◌, ◌≤◌, min, Bool, true, false, cond, not, ◌&&◌, T, ltb, leb, List, [], ◌∷◌, ◌++◌, map, length, get_or, take, drop, replicate, Some, None, vec_items, vec_len, count_by, Option, sym, refl, ap, ◌∙◌, ⊎_elim, append-nil, zero-add, arith}
use Rattle.std.proofs.lemmas.List.{drop_all, drop_at, get_or_append_left, length-map, length-take-le, take_all, take-append-le}
use Rattle.std.proofs.lemmas.Bool.{cases_lt, cond_both, and_from, and_parts, leb-true, ltb-true, not-false, or_parts, true≢false}
use Rattle.std.specs.List.{list_all}
use Rattle.calendar.specs.Digits.{day_number_of, is_date}
use Rattle.calendar.specs.Gregorian.{days_in_all}
use Rattle.estimators.specs.Meaning.{Meaning}
use Rattle.rules.specs.declared.entry.Reading.{Reading}
use Rattle.ledger.specs.Ledger.{IsLedgerOf}
use Rattle.ledger.specs.Limits.{interval_within, opening_within}
use Rattle.ledger.specs.Opening.{are_lists_short, is_opening_beyond_limits, opening_of, opening_refusal, setting_of}
use Rattle.ledger.specs.Places.{holds_passing}
use Rattle.ledger.proofs.PlaceCounts.{count_cons}
use Rattle.ledger.specs.declared.opening.OpeningRequest.{OpeningRequest}
use Rattle.ledger.specs.declared.ledger.Ledger.{Ledger}
use Rattle.allocation.specs.Loads.{meters}
use Rattle.rules.specs.Calls.{is_between}

cond_none : (b : Bool) (n : ℕ) (rest : Option ℕ) → cond b (Some n) rest ≡ None → (b ≡ false) × (rest ≡ None)
cond_none true n rest e = let z : ◌≡◌ {A = ℕ} 0 1 = cc in absurd (omega arith)
cond_none false n rest e = (refl, e)

not_late : (real early : Bool) → real ≡ true → (real && not early) ≡ false → early ≡ true
not_late true early same e = not-false early e
not_late false early same e = absurd (true≢false (sym same))

-- what an accepted opening says of its numbers
pub record Accepted (q : OpeningRequest) (interval_places : ℕ) : Type 0 where
  pub within : T (opening_within (opening_of q))
  pub long : q.days * 32 ≤ interval_places

pub accepted : (q : OpeningRequest) (interval_places reading_places : ℕ)
    → opening_refusal q interval_places reading_places ≡ None → Accepted q interval_places
accepted q interval_places reading_places e =
    let three = cond_none (is_opening_beyond_limits q) 3 _ e in
    let four = cond_none (not (is_date q.first_date)) 4 _ three.1 in
    let fifteen = cond_none (are_lists_short q.days interval_places reading_places) 15 _ four.1 in
    let limits = or_parts _ _ three.0 in
    let numbers = not-false _ limits.0 in
    let days_within = and_parts (is_between 1 400 q.days) _ numbers in
    let rest_within = and_parts (is_between 1 256 q.points) (leb q.unaccounted 2000) days_within.1 in
    let real : is_date q.first_date ≡ true = not-false _ four.0 in
    let early : ltb (day_number_of q.first_date + q.days) days_in_all ≡ true = not_late _ _ real limits.1 in
    record {
      within = rw (and_from _ _ (and_parts (leb 1 q.days) (leb q.days 400) days_within.0).1 (and_from _ _ (and_parts (leb 1 q.points) (leb q.points 256) rest_within.0).1 (and_from _ _ rest_within.1 early))) tt;
      long = leb-true _ _ (and_parts (leb (q.days * 32) interval_places) (leb 1 reading_places) (not-false _ fifteen.0)).0;
    }

-- 0, whatever was there
abbrev pub zero_of : ℕ → ℕ
zero_of x = 0

zeros_within : (xs : List ℕ) → T (list_all interval_within (map zero_of xs))
zeros_within [] = tt
zeros_within (x ∷ xs) = zeros_within xs

zero_read : (xs : List ℕ) (k : ℕ) → get_or (map zero_of xs) k 0 ≡ 0
zero_read [] k = refl
zero_read (x ∷ xs) zero = refl
zero_read (x ∷ xs) (suc k) = zero_read xs k

none_read : {X : Type 0} (nothing : Option X) (n k : ℕ) → get_or (replicate n nothing) k nothing ≡ nothing
none_read nothing zero k = refl
none_read nothing (suc n) zero = refl
none_read nothing (suc n) (suc k) = none_read nothing n k

cond_same : {X : Type 0} (b : Bool) (x : X) → cond b x x ≡ x
cond_same true x = refl
cond_same false x = refl

module _ (n : ℕ) (xs ys : List ℕ) (long : n ≤ length xs) (is : ys ≡ map zero_of (take n xs) ++ drop n xs) where
  front_long : length (map zero_of (take n xs)) ≡ n
  front_long = length-map (take n xs) zero_of ∙ length-take-le n xs long

  -- a list whose front was cleared: within limits, 0 where it was cleared, as it was is_opening_beyond_limits
  pub cleared_within : T (list_all interval_within (take n ys))
  cleared_within =
      let front : take n ys ≡ map zero_of (take n xs) =
      ap (take n) is ∙ take-append-le n (map zero_of (take n xs)) (drop n xs) (omega (arith, front_long)) ∙ take_all n (map zero_of (take n xs)) (omega (arith, front_long)) in
      rw front (zeros_within (take n xs))

  pub cleared_read : (k : ℕ) → k < n → get_or ys k 0 ≡ 0
  cleared_read k below =
      ap (λ l. get_or l k 0) is ∙ get_or_append_left (map zero_of (take n xs)) (drop n xs) 0 k (omega (arith, front_long)) ∙ zero_read (take n xs) k

  pub cleared_rest : drop n ys ≡ drop n xs
  cleared_rest = ap (drop n) is ∙ drop_at (map zero_of (take n xs)) (drop n xs) n front_long

none_counted : (test : Reading → Bool) (n : ℕ) → count_by (holds_passing test) (replicate n None) ≡ 0
none_counted test zero = refl
none_counted test (suc n) = count_cons (holds_passing test) None (replicate n None) ∙ zero-add _ ∙ none_counted test n

in_row : (days d m : ℕ) → (ltb d days && is_between 1 meters m) ≡ true → d * 32 + (m - 1) < days * 32
in_row days d m inside =
    let parts = and_parts (ltb d days) (is_between 1 meters m) inside in
    let bounds = and_parts (leb 1 m) (leb m meters) parts.1 in
    let day : d < days = ltb-true d days parts.0 in
    let low : 1 ≤ m = leb-true 1 m bounds.0 in
    let high : m ≤ 32 = leb-true m 32 bounds.1 in
    omega arith

-- a ledger of empty tables follows the empty history
pub empty_followed : (q : OpeningRequest) (l : Ledger) (xs : List ℕ) (n : ℕ) (m : Meaning) (w : ℕ → Meaning)
    → l.opening ≡ opening_of q → l.gates ≡ replicate 400 None → q.days * 32 ≤ length xs
    → vec_items l.intervals ≡ map zero_of (take (q.days * 32) xs) ++ drop (q.days * 32) xs
    → l.enrolments ≡ replicate 256 None → vec_items l.places ≡ replicate n None
    → vec_len l.places ≡ n → IsLedgerOf (setting_of q n m w) [] l
empty_followed q l xs n m w opening gates long intervals enrolments places room = record {
  first = ap (λ o. o.first) opening;
  days = ap (λ o. o.days) opening;
  points = ap (λ o. o.points) opening;
  unaccounted = ap (λ o. o.unaccounted) opening;
  room = room;
  gates = λ d. rw (gates, none_read None 400 d) (cond_same (ltb d l.opening.days) None);
  intervals = λ meter d.
      cond_both (ltb d l.opening.days && is_between 1 meters meter) (get_or (vec_items l.intervals) (d * 32 + (meter - 1)) 0) 0 (λ (x : ℕ). x ≡ 0)
      (λ inside. cleared_read (q.days * 32) xs (vec_items l.intervals) long intervals (d * 32 + (meter - 1)) (in_row q.days d meter (rw (ap (λ o. o.days) opening) at inside))) (λ _. refl);
  enrolments = λ p. rw (enrolments, none_read None 256 (p - 1)) (cond_same (is_between 1 l.opening.points p) None);
  readings = λ test. rw places (none_counted test n);
}

zeros : (xs : List ℕ) → map zero_of xs ≡ replicate (length xs) 0
zeros [] = refl
zeros (x ∷ xs) = ap (λ rest. 0 ∷ rest) (zeros xs)

-- a list whose first n places are cleared, or all where it has fewer
pub cleared_front : (n i : ℕ) (xs : List ℕ) → i ≡ min n (length xs)
    → replicate (length (take i xs)) 0 ++ drop i xs ≡ map zero_of (take n xs) ++ drop n xs
cleared_front n i xs is =
    ap (λ front. front ++ drop i xs) (sym (zeros (take i xs)))
    ∙ ⊎_elim
    (λ (short : length xs < n).
    let all : i ≡ length xs = omega arith in
    (λ k. map zero_of (same_front all short k) ++ same_rest all short k))
    (λ (long : n ≤ length xs). let all : i ≡ n = omega arith in ap (λ k. map zero_of (take k xs) ++ drop k xs) all)
    (cases_lt (length xs) n)
  where
    same_front : i ≡ length xs → length xs < n → take i xs ≡ take n xs
    same_front all short = take_all i xs (omega arith) ∙ sym (take_all n xs (omega arith))

    same_rest : i ≡ length xs → length xs < n → drop i xs ≡ drop n xs
    same_rest all short = drop_all i xs (omega arith) ∙ sym (drop_all n xs (omega arith))

-- a list written over from its front to its end
pub written_over : {X : Type 0} (n : ℕ) (xs ys : List X) → length xs ≡ n → length ys ≡ n
    → take n (xs ++ drop (length xs) ys) ≡ xs
written_over n xs ys long same = ap (λ rest. take n (xs ++ rest)) (drop_all (length xs) ys (omega arith)) ∙ ap (take n) (append-nil xs) ∙ take_all n xs (omega arith)

-- what is none alone
pub only_none : {X : Type 0} (P : Option X → Type 0) → ((x : X) → P (Some x) → ⊥) → (y : Option X) → P y → y ≡ None
only_none P never None same = refl
only_none P never (Some x) same = absurd (never x same)
