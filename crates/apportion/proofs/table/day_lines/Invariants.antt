use Rattle.std.proofs.Common.{length, vec_items}
use Rattle.apportion.proofs.Days.{Written}
use Rattle.apportion.proofs.table.day_lines.Given as goal

abbrev pub invariant-loop-load : goal.invariant-loop-load
invariant-loop-load l = Written l.loads l.days (length l.yielded) l.running_sum (vec_items l.lines)
