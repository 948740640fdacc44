-- Where the date, the temperatures and the winds are within their limits, and not all is, sunshine is at fault.
use Rattle.std.proofs.Common.{◌≡◌, ℕ, ◌+◌, ◌≤◌, ltb, length, Some, Option, Bool, true, false, true≢false, cond, ◌&&◌, T, List, None, Ok, Err, Result, sym, refl, arith}
use Rattle.std.specs.Prelude.{IsErr, MatchOption, not}
use Rattle.std.specs.Option.{option_map, option_or}
use Rattle.std.specs.List.{list_all, prefix_len}
use Rattle.std.proofs.lemmas.Bool.{ltb-false}
use Rattle.std.proofs.lemmas.List.Sums.{prefix_len_passes, list_all-from_AllPass}
use Rattle.terms.specs.Answers.{Answers}
use Rattle.terms.specs.declared.refusal.Refusal.{Refusal}
use Rattle.calendar.specs.Digits.{is_date}
use Rattle.estimates.specs.declared.observations.Observations.{Observations}
use Rattle.estimates.specs.Observations.{temperature_within, wind_within, sunshine_within, day_of_year_within, has_count}
use Rattle.degreedays.specs.Word.{first_failing, first_beyond, first_fault, ok_unless}
use Rattle.degreedays.specs.Reckoning.{day_of_year_of}
use Rattle.degreedays.specs.declared.word.Word.{Word}
use Rattle.degreedays.specs.declared.word.Word.TheVariants.{Date, Temperature, Wind, Sunshine}

-- a day of the year was found, so that there is such a date
date_exists : (real : Bool) (n p : ℕ) → ◌≡◌ {A = Result ℕ Word} (Ok n) (cond real (Ok p) (Err Date)) → real ≡ true
date_exists true n p e = refl
date_exists false n p e = let z : ◌≡◌ {A = ℕ} 0 1 = cc in absurd (omega arith)

-- a call was refused, so that its test failed
test_failed : {X : Type 0} (test : Bool) (answer : Result X Refusal) (x : X) → Answers answer test x 3 → IsErr answer → test ≡ false
test_failed true (Ok y) x answered refused = absurd (true≢false (sym refused))
test_failed true (Err e) x answered refused = absurd answered
test_failed false answer x answered refused = refl

-- temperatures, winds and day of the year within their limits: only the sunshine can be beyond its own
sunshine_failed : (mild calm sunny day : Bool) → mild ≡ true → calm ≡ true → T day → ((mild && (calm && sunny)) && day) ≡ false → sunny ≡ false
sunshine_failed true true false day em ec td e = refl
sunshine_failed true true true true em ec td e = e
sunshine_failed true true true false em ec td e = absurd td
sunshine_failed true false sunny day em ec td e = absurd (true≢false (sym ec))
sunshine_failed false calm sunny day em ec td e = absurd (true≢false (sym em))

no_place : (found : Bool) (n : ℕ) → option_map (λ k. k + 1) (cond found (Some n) None) ≡ None → found ≡ false
no_place true n e = let z : ◌≡◌ {A = ℕ} 0 1 = cc in absurd (omega arith)
no_place false n e = refl

passes : (b : Bool) → not (not b) ≡ true → b ≡ true
passes true e = refl
passes false e = e

-- where there is no first element that does not pass, all pass
all_pass : {X : Type 0} (p : X → Bool) (xs : List X) → first_failing p xs ≡ None → list_all p xs ≡ true
all_pass p xs none =
    let front = prefix_len (λ x. not (not (p x))) xs in
    let whole : length xs ≤ front = ltb-false front (length xs) (no_place (ltb front (length xs)) front none) in
    list_all-from_AllPass p xs (λ i d h. passes _ (prefix_len_passes (λ x. not (not (p x))) xs i d (omega arith)))

neither : (a b : Option ℕ) → None ≡ option_or (option_map Temperature a) (option_map Wind b) → (a ≡ None) × (b ≡ None)
neither None None e = (refl, refl)
neither None (Some n) e = let z : ◌≡◌ {A = ℕ} 0 1 = cc in absurd (omega arith)
neither (Some n) b e = let z : ◌≡◌ {A = ℕ} 0 1 = cc in absurd (omega arith)

-- neither a temperature nor a wind is beyond its limits
none_beyond : (day : Observations) → None ≡ first_beyond day → (list_all temperature_within day.temperatures ≡ true) × (list_all wind_within day.winds ≡ true)
none_beyond day e =
    let none = neither (first_failing temperature_within day.temperatures) (first_failing wind_within day.winds) e in
    (all_pass temperature_within day.temperatures none.0, all_pass wind_within day.winds none.1)

-- an answer that is refused for a word where there is one, else accepted
pub refused_for : (word : Option Word) (r : Result (Unit {0}) Word) → MatchOption word (r ≡ Ok tt) (λ w. r ≡ Err w) → r ≡ ok_unless word tt
refused_for None r e = e
refused_for (Some w) r e = e

-- nothing was refused, so that there is no such word
none_refused : (word : Option Word) → ◌≡◌ {A = Result (Unit {0}) Word} (Ok tt) (ok_unless word tt) → None ≡ word
none_refused None e = refl
none_refused (Some w) e = let z : ◌≡◌ {A = ℕ} 0 1 = cc in absurd (omega arith)

pub sunshine_at_fault : {R X : Type 0} (r : R) (x : X) (date : ℕ) (day : Observations) (n : ℕ) (answer : Result X Refusal)
    → ◌≡◌ {A = Result ℕ Word} (Ok n) (cond (is_date date) (Ok (day_of_year_of date)) (Err Date))
    → T (day_of_year_within n)
    → ◌≡◌ {A = Result (Unit {0}) Word} (Ok tt) (ok_unless (first_beyond day) tt)
    → Answers answer (has_count day n) x 3 → IsErr answer → Err Sunshine ≡ ok_unless (first_fault date day) r
sunshine_at_fault r x date day n answer found in_year accepted answered refused =
    let real : is_date date ≡ true = date_exists (is_date date) n (day_of_year_of date) found in
    let none = none_refused (first_beyond day) accepted in
    let passed = none_beyond day none in
    let failed : sunshine_within day.sunshine ≡ false =
    sunshine_failed (list_all temperature_within day.temperatures) (list_all wind_within day.winds)
    (sunshine_within day.sunshine) (day_of_year_within n) passed.0 passed.1 in_year
    (test_failed (has_count day n) answer x answered refused) in
    rw (real, sym none, failed) refl
