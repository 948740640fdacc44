use Rattle.std.proofs.Common.{ℕ}
use Rattle.std.specs.Io.KnownBytes.{Appends}
use Rattle.report.proofs.DayLineLemmas.{days_before}
use Rattle.report.proofs.feed.Feed.write_days.Given as goal
use Rattle.report.specs.Intake.{IsIntakeOf}
use Rattle.report.specs.IntakeHistory.{IntakeHistory}

-- the lines of the days so far are written
abbrev pub invariant-loop-day : goal.invariant-loop-day
invariant-loop-day g l = (k : ℕ) (t : IntakeHistory) → IsIntakeOf k t l.self.intake → Appends (g.W.Write.contents l.initial.output) (g.W.Write.contents l.output) (days_before t l.day)
