use Rattle.std.proofs.Common.{ℕ, ◌<◌, ◌≤◌}
use Rattle.rules.specs.History.{History, Setting}
use Rattle.sheet.specs.Sheet.{ChangesOnlyDays, ChangesOnlyNotes}
use Rattle.sheet.specs.SheetOfHistory.{IsReadyToSettle, IsSettled, KnowsHistory, MeansEstimates}
use Rattle.sheet.proofs.sheet.Sheet.settle_days.Given as goal

abbrev pub invariant-loop-day : goal.invariant-loop-day
invariant-loop-day g l =
    ChangesOnlyDays l.fn.days.from l.day l.initial.self l.self
    × ChangesOnlyNotes l.fn.days.from l.day l.initial.self l.self
    × ((s : Setting) (h : History) → KnowsHistory s h l.sources.ledger.now l.initial.self → MeansEstimates s h (g.E.Estimator.meaning l.sources.estimator.now)
    → ((d : ℕ) → l.fn.days.from ≤ d → d < l.fn.days.to → IsReadyToSettle s h l.initial.self d) → (d : ℕ) → l.fn.days.from ≤ d → d < l.day → IsSettled s h l.self d)
