use Rattle.std.proofs.Common.{◌≡◌, ℕ, ◌≤◌, cond, ◌&&◌, eqb, ltb, leb, get_or}
use Rattle.sheet.specs.DayWeights.{shares_of_days}
use Rattle.sheet.specs.Sheet.{ChangesOnlyDays, figure_at}
use Rattle.sheet.proofs.sheet.Sheet.show_shares.Given as goal

abbrev pub invariant-loop-day : goal.invariant-loop-day
invariant-loop-day l =
    ChangesOnlyDays l.reading.start l.day l.initial.self l.self
    × (l.self.notes ≡ l.initial.self.notes)
    × (l.self.reading_days ≡ l.initial.self.reading_days)
    × ((p d : ℕ) → 1 ≤ p → p ≤ l.initial.self.points
    → figure_at l.self p d ≡ cond (eqb l.reading.point p && (leb l.reading.start d && ltb d l.day)) (get_or (shares_of_days l.initial.self.reading_days) d 0) (figure_at l.initial.self p d))
