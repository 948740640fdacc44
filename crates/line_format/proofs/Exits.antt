-- The exit of a `?`. Assumes nothing.
use Rattle.std.proofs.Common.{◌≡◌, true, is_err, IsErrAnd, Ok, Err, Result, sym, subst}

-- what holds of an error holds of the result that a `?` returns with it
pub at_exit : {X E : Type 0} (P : Result X E → Type 0) (r : Result X E) (e : E) → (is_err r ≡ true) × IsErrAnd r (λ y. y ≡ e) → P (Err e) → P r
at_exit P (Ok x) e p holds = absurd p.1
at_exit P (Err y) e p holds = subst (λ z. P (Err z)) (sym p.1) holds
