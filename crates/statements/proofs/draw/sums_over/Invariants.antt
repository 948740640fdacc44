use Rattle.std.proofs.Common.{◌≡◌, ℕ, ◌+◌, ◌<◌, ◌≤◌, length, get_or}
use Rattle.book.specs.Book.{InEveryCase}
use Rattle.book.specs.Days.{AreDaysOf}
use Rattle.estimators.specs.Meaning.{meanings_of}
use Rattle.statements.specs.Sums.{retailer_over}
use Rattle.statements.specs.declared.statement.Span.{Span}
use Rattle.statements.proofs.draw.sums_over.Given as goal
use Rattle.terms.specs.Limits.{retailers}
use Rattle.statements.specs.Limits.{largest_statement_sum}

abbrev pub invariant-loop-place : goal.invariant-loop-place
invariant-loop-place g l = record {
  long : length l.retailers ≡ retailers;
  fits : (k : ℕ) → get_or l.retailers k 0 ≤ largest_statement_sum;
  law : InEveryCase l.book (meanings_of (g.E.Estimator.meaning l.estimator) (g.E.Weather.under l.estimator))
      (λ c. (span : Span) → AreDaysOf c.setting span.first span.last l.days → (k : ℕ) → k < l.place → get_or l.retailers k 0 ≡ retailer_over c.setting c.history (k + 1) span);
}
