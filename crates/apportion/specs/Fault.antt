-- What a call gives that needs memory and may be refused.
use Rattle.std.specs.Prelude.{◌≡◌, Bool, true, false, Ok, Err, Result}
use Rattle.terms.specs.Refusal.{number_of}
use Rattle.terms.specs.RefusalNumbers.{beyond_limits}
use Rattle.apportion.specs.declared.fault.Fault.{Fault}
use Rattle.apportion.specs.declared.fault.Fault.TheVariants.{Refused, Memory}

-- where the test passes, a value of which P holds; where it does not, a refusal as beyond limits; or want of memory
abbrev pub MakesWhere : {X : Type 0} → Bool → (X → Type 0) → Result X Fault → Type 0
MakesWhere ok P (Ok x) = (ok ≡ true) × P x
MakesWhere ok P (Err (Refused e)) = (ok ≡ false) × (number_of e ≡ beyond_limits)
MakesWhere ok P (Err Memory) = Unit {0}
MakesWhere ok P (Err other) = ⊥
