use Rattle.std.proofs.Common.{◌≡◌, ◌+◌, length}
use Rattle.rules.specs.History.{History, Setting}
use Rattle.sheet.specs.Scaling.{figures_of_points}
use Rattle.sheet.specs.Sheet.{ChangesOnlyDays}
use Rattle.sheet.specs.SheetOfHistory.{KnowsHistory}
use Rattle.sheet.proofs.GeneratedFigures.{ShowsFirstPoints}
use Rattle.sheet.proofs.sheet.Sheet.show_generated.Given as goal

abbrev pub invariant-loop-point : goal.invariant-loop-point
invariant-loop-point l =
    ChangesOnlyDays l.day (l.day + 1) l.initial.self l.self
    × (l.self.notes ≡ l.initial.self.notes)
    × ((s : Setting) (h : History) → KnowsHistory s h l.ledger l.initial.self → ShowsFirstPoints h s.points l.day (figures_of_points l.points) (length l.yielded) l.initial.self l.self)
