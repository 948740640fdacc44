use Rattle.std.proofs.Common.{◌≡◌, ℕ, ◌+◌, ◌-◌, ◌^◌, ◌<◌, min, get_or, is_some}
use Rattle.rules.specs.History.{History, Setting, covering_reading}
use Rattle.sheet.specs.Scaling.{estimates_of_points, figures_of_points}
use Rattle.sheet.specs.Sheet.{sum_where}
use Rattle.sheet.specs.SheetOfHistory.{KnowsHistory, MeansEstimatesOn}
use Rattle.sheet.proofs.sheet.Sheet.gather.Given as goal
use Rattle.rules.specs.Figures.{counted_estimate}

abbrev pub invariant-loop-i : goal.invariant-loop-i
invariant-loop-i g l =
    ((k : ℕ) → k < l.i → get_or (figures_of_points l.points) k 0 ≡ get_or (estimates_of_points l.points) k 0)
    × ((s : Setting) (h : History) → KnowsHistory s h l.sources.ledger.now l.self → MeansEstimatesOn s h l.day (g.E.Estimator.meaning l.sources.estimator.now)
    → (k : ℕ) → k < l.i → get_or (estimates_of_points l.points) k 0 ≡ counted_estimate s h (k + 1) l.day)
    × ((s : Setting) (h : History) → KnowsHistory s h l.sources.ledger.now l.self → l.supplied ≡ min (sum_where (λ p. is_some (covering_reading h p l.day)) l.self l.day l.i) (2 ^ 64 - 1))
