use Rattle.std.proofs.Common.{arith}
use Rattle.allocation.specs.Sharing.{part}
use Rattle.allocation.proofs.sharing.take_share.Goals as goal

pub overflow_sub-share_sum : goal.overflow_sub-share_sum
unfolding part
overflow_sub-share_sum g c = grind (arith, c.requires.grows, c.quotient-share_sum.ensures, c.saturating_add-weight_sum.ensures, c.weight.ensures)

pub returns-clause-share_sum : goal.returns-clause-share_sum
unfolding part
returns-clause-share_sum g c = c.quotient-share_sum.ensures
