use Rattle.std.proofs.Common.{◌≡◌, ◌*◌, take, pos, ◌+ℤ◌, neg_ℤ, ◌≤ℤ◌, fold}
use Rattle.estimates.proofs.observations.Observations.coldness.Given as goal

abbrev pub invariant-loop-t : goal.invariant-loop-t
invariant-loop-t l =
    (l.sum ≡ fold ◌+ℤ◌ (pos 0) (take l.t-index l.self.temperatures))
    × (neg_ℤ (pos (200 * l.t-index)) ≤ℤ l.sum)
    × (l.sum ≤ℤ pos (500 * l.t-index))
