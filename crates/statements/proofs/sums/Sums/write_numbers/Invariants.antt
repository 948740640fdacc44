use Rattle.std.proofs.Common.{◌≡◌, ℕ, ◌<◌, ℤ}
use lib.Seq.{paste}
use Rattle.statements.specs.Lists.{listed}
use Rattle.statements.proofs.sums.Sums.write_numbers.Given as goal

abbrev pub invariant-loop-place : goal.invariant-loop-place
invariant-loop-place g l =
    (f : ℕ → ℤ) → ((place : ℕ) (x : ℤ) → place < 17 → goal.F-post g l.number place x → x ≡ f place) → l.list ≡ paste l.initial.list l.from (listed f) l.place
