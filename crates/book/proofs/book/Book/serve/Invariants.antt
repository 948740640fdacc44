use Rattle.std.proofs.Common.{◌≡◌, T, length, take, drop}
use Rattle.std.specs.List.{list_all}
use Rattle.book.specs.Book.{InEveryCase}
use Rattle.estimators.specs.Meaning.{meanings_of}
use Rattle.book.specs.Replies.{changes_nothing}
use Rattle.book.proofs.Runs.{Ran}
use Rattle.book.proofs.book.Book.serve.Given as goal

abbrev pub invariant-loop-i : goal.invariant-loop-i
invariant-loop-i g l = record {
  beyond : drop (length l.calls) l.answers ≡ drop (length l.calls) l.initial.answers;
  kept : T (list_all changes_nothing (take l.i l.answers)) → (l.self ≡ l.initial.self) × (l.estimator ≡ l.initial.estimator);
  ran : InEveryCase l.initial.self (meanings_of (g.E.Estimator.meaning l.initial.estimator) (g.E.Weather.under l.initial.estimator))
      (λ c. Ran c l.calls l.answers l.i l.self (meanings_of (g.E.Estimator.meaning l.estimator) (g.E.Weather.under l.estimator)));
}
