-- What a call that may be refused answers.
use Rattle.std.specs.Prelude.{◌≡◌, ℕ, Bool, true, false, Ok, Err, Result, refl}
use Rattle.terms.specs.Refusal.{number_of}
use Rattle.terms.specs.declared.refusal.Refusal.{Refusal}

-- the call was refused, by the refusal of number n
abbrev pub IsRefusedBy : {X : Type 0} → ℕ → Result X Refusal → Type 0
IsRefusedBy n (Ok x) = ⊥
IsRefusedBy n (Err e) = number_of e ≡ n

-- the call was accepted, and P holds of what it gave
abbrev pub IsAccepted : {X : Type 0} → (X → Type 0) → Result X Refusal → Type 0
IsAccepted P (Ok x) = P x
IsAccepted P (Err e) = ⊥

-- where the test passes the call gives a value of which P holds; where it does not, it is refused by number n
abbrev pub AnswersBy : {X : Type 0} → Result X Refusal → Bool → (X → Type 0) → ℕ → Type 0
AnswersBy r true P n = IsAccepted P r
AnswersBy r false P n = IsRefusedBy n r

-- where the test passes the call answers v; where it does not, it is refused by number n
abbrev pub Answers : {X : Type 0} → Result X Refusal → Bool → X → ℕ → Type 0
Answers r ok v n = AnswersBy r ok (λ x. x ≡ v) n

-- accepted where the test passes; where it does not, refused by number n
abbrev pub IsAcceptedWhen : {X : Type 0} → Result X Refusal → Bool → ℕ → Type 0
IsAcceptedWhen r ok n = AnswersBy r ok (λ x. Unit {0}) n

-- an answer from the test that leads to it
pub answers_value : {X : Type 0} {ok : Bool} {x v : X} (n : ℕ) → ok ≡ true → x ≡ v → Answers (Ok x) ok v n
answers_value n passes e = rw passes e

pub answers_refusal :
    {X : Type 0} {ok : Bool} (v : X) (n : ℕ) (e : Refusal)
    → ok ≡ false → number_of e ≡ n → Answers (Err e) ok v n
answers_refusal v n e fails same = rw fails same

-- what an accepted and a refused answer say of the test
pub accepted_since :
    {X : Type 0} (x : X) (ok : Bool) (P : X → Type 0) (n : ℕ)
    → AnswersBy (Ok x) ok P n → (ok ≡ true) × P x
accepted_since x true P n h = (refl, h)
accepted_since x false P n h = absurd h

pub refused_since :
    {X : Type 0} (e : Refusal) (ok : Bool) (P : X → Type 0) (n : ℕ)
    → AnswersBy (Err e) ok P n → (ok ≡ false) × (number_of e ≡ n)
refused_since e true P n h = absurd h
refused_since e false P n h = (refl, h)
