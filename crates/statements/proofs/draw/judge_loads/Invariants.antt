use Rattle.std.proofs.Common.{◌≡◌, ℕ, ◌+◌, ◌<◌, ◌≤◌, true, is_some}
use Rattle.rules.specs.Figures.{load}
use Rattle.book.specs.Book.{InEveryCase}
use Rattle.estimators.specs.Meaning.{meanings_of}
use Rattle.statements.proofs.draw.judge_loads.Given as goal

abbrev pub invariant-loop-place : goal.invariant-loop-place
invariant-loop-place g l =
    InEveryCase l.book (meanings_of (g.E.Estimator.meaning l.estimator) (g.E.Weather.under l.estimator))
    (λ c. l.days.first + l.days.count ≤ c.setting.days → (k : ℕ) → k < l.place → is_some (load c.setting c.history (l.days.first + k)) ≡ true)
