use Rattle.allocation.proofs.Turns.{Taken}
use Rattle.allocation.proofs.sharing.share.Given as goal

abbrev pub invariant-loop-row : goal.invariant-loop-row
invariant-loop-row g l = Taken g.R.Row.weight g.R.Row.with_share l.amount l.initial.rows l.row-index l.rows l.progress.weight_sum l.progress.share_sum
