use Rattle.std.proofs.Common.{◌≡◌, ℕ, ◌+◌, ◌-◌, ◌^◌, ◌≤◌, min, Bool}
use Rattle.sheet.specs.Sheet.{IsPointOfSheet, sum_where}
use Rattle.sheet.proofs.sheet.Sheet.sum_where.Given as goal

abbrev pub invariant-loop-point : goal.invariant-loop-point
invariant-loop-point g l =
    (l.point ≤ l.self.points + 1)
    × ((passes : ℕ → Bool) → ((p : ℕ) (answer : Bool) → IsPointOfSheet l.self p → goal.F-post g l.test p answer → answer ≡ passes p)
    → l.total ≡ min (sum_where passes l.self l.day (l.point - 1)) (2 ^ 64 - 1))
