-- From a test that passed, or failed, to what a call answers. Assumes nothing.
use Rattle.std.proofs.Common.{◌≡◌, ℕ, Bool, true, false, Ok, Err, Result, refl}
use mathlib.Core.Path.{subst⁻¹}
use Rattle.terms.specs.Answers.{AnswersBy}
use Rattle.terms.specs.RefusalNumbers.{no_such_date}
use Rattle.terms.specs.declared.refusal.Refusal.{Refusal}
use Rattle.terms.specs.declared.refusal.Refusal.TheVariants.{NoSuchDate}

-- the test passed, and P holds of the value given
pub accepted : {X : Type 0} {test : Bool} (P : X → Type 0) {x : X} (n : ℕ) → P x → test ≡ true → AnswersBy (Ok x) test P n
accepted P {x} n holds passed = subst⁻¹ (λ (b : Bool). AnswersBy (Ok x) b P n) passed holds

-- the test failed, and there is no such date
pub refused_as_no_such_date : {X : Type 0} {test : Bool} (P : X → Type 0) → test ≡ false → AnswersBy (Err NoSuchDate) test P no_such_date
refused_as_no_such_date P failed = subst⁻¹ (λ (b : Bool). AnswersBy (Err NoSuchDate) b P no_such_date) failed refl

-- a value made from an accepted one is accepted by the same test
pub carried : {X Y : Type 0} (test : Bool) (P : X → Type 0) (Q : Y → Type 0) (n : ℕ) {x : X} {y : Y} → (P x → Q y) → AnswersBy (Ok x) test P n → AnswersBy (Ok y) test Q n
carried true P Q n onward holds = onward holds
carried false P Q n onward holds = absurd holds

-- what follows from P is true of what was accepted by P
pub weakened : {X : Type 0} (r : Result X Refusal) (test : Bool) (P Q : X → Type 0) (n : ℕ) → ((x : X) → P x → Q x) → AnswersBy r test P n → AnswersBy r test Q n
weakened (Ok x) true P Q n onward holds = onward x holds
weakened (Err e) true P Q n onward holds = absurd holds
weakened r false P Q n onward holds = holds
