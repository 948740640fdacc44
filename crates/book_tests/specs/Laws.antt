-- No figure at all, and the greatest where a test holds, keep the limits.
use Rattle.std.specs.Prelude.{◌≡◌, ℕ, ◌≤◌, Bool, false, cond, Some, None}
use Rattle.std.proofs.Common.{arith}
use Rattle.std.proofs.lemmas.Bool.{cond-false}
use Rattle.std.proofs.lemmas.Option.{none-some, cond_some}
use Rattle.terms.specs.Limits.{greatest_figure}

pub none_bounded : (x : ℕ) → None ≡ Some x → x ≤ greatest_figure
none_bounded x e = absurd (none-some x e)

pub greatest_bounded : (within : Bool) (x : ℕ) → cond within (Some greatest_figure) None ≡ Some x → x ≤ greatest_figure
greatest_bounded within x e = omega (arith, (cond_some within greatest_figure x e).1)

pub greatest_ranged : (within : Bool) → within ≡ false → cond within (Some greatest_figure) None ≡ None
greatest_ranged within outside = cond-false within _ _ outside
