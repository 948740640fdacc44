use Rattle.std.proofs.Common.{◌≡◌, vec_items}
use Rattle.rules.specs.History.{History, Setting}
use Rattle.sheet.specs.SheetOfHistory.{KnowsHistory}
use Rattle.sheet.proofs.JoinedReadings.{SharesFirstPlaces, LiesBetween}
use Rattle.sheet.proofs.sheet.Sheet.share_readings_over.Given as goal

abbrev pub invariant-loop-place : goal.invariant-loop-place
invariant-loop-place l =
    LiesBetween l.day l.days.from l.days.to l.initial.self l.self
    × ((s : Setting) (h : History) → KnowsHistory s h l.ledger l.initial.self → SharesFirstPlaces s h (vec_items l.ledger.places) l.place-index l.day l.days.from l.days.to l.initial.self l.self)
    × (l.self.notes ≡ l.initial.self.notes)
