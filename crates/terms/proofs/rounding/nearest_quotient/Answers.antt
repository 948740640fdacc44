use Rattle.std.proofs.Common.{arith}
use Rattle.terms.proofs.Halves.{rounds_up, rounds_down}
use Rattle.terms.proofs.rounding.nearest_quotient.Goals as goal

pub returns-then-half_or_more : goal.returns-then-half_or_more
returns-then-half_or_more c = grind (arith, rounds_up c.args.number c.args.by)

pub returns-else-half_or_more : goal.returns-else-half_or_more
returns-else-half_or_more c = grind (arith, rounds_down c.args.number c.args.by)
