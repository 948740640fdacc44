use Rattle.std.proofs.Common.{vec_items}
use Rattle.apportion.proofs.Days.{Weighed}
use Rattle.apportion.proofs.table.weighed_days.Given as goal

abbrev pub invariant-loop-load : goal.invariant-loop-load
invariant-loop-load l = Weighed l.loads l.load-index (vec_items l.days)
