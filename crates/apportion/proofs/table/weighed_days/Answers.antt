use Rattle.std.proofs.lemmas.Result.{err_from_is_err_and}
use Rattle.apportion.proofs.Days.{weighed_all, too_heavy}
use Rattle.apportion.proofs.table.weighed_days.Goals as goal

pub returns-in_err-new : goal.returns-in_err-new
returns-in_err-new c =
    let p = err_from_is_err_and c.from_residual.result c.from_residual.ensures.1 in
    rw (p.1, p.2) (too_heavy _ _ c.loop-load-test.true c.weight_of.ensures c.in_err-new.ensures)

pub returns : goal.returns
returns c = weighed_all c.loop-load-test.false c.loop-load.invariant
