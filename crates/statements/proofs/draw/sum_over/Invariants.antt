use Rattle.std.proofs.Common.{◌≡◌, ℕ, ◌+◌, ◌<◌, ◌≤◌, min, Ok, Result}
use Rattle.terms.specs.declared.refusal.Refusal.{Refusal}
use Rattle.statements.specs.Spans.{sum_over}
use Rattle.statements.proofs.draw.sum_over.Given as goal
use Rattle.statements.specs.Limits.{largest_statement_sum}

abbrev pub invariant-loop-place : goal.invariant-loop-place
invariant-loop-place g l = record {
  fits : l.total ≤ largest_statement_sum;
  law : (f : ℕ → ℕ) → ((k : ℕ) (r : Result ℕ Refusal) → k < l.days.count → goal.F-post g l.ask (l.days.first + k) r → r ≡ Ok (f (l.days.first + k))) → l.total ≡ min (sum_over f l.days.first l.place) largest_statement_sum;
}
