use Rattle.std.proofs.Common.{rules, refl, length-append, arith}
use Rattle.std.proofs.lemmas.Slice.Zip.{zip_turn}
use Rattle.apportion.proofs.Days.{run_within, written_more}
use Rattle.apportion.proofs.table.day_lines.Goals as goal

pub overflow_add-running_sum : goal.overflow_add-running_sum
overflow_add-running_sum c =
    let turn = zip_turn c.args.loads.now c.args.days.now c.loop-load.yielded c.into_iter-load-iterator.result c.loop-load.load-iterator c.next.new.self c.next.result (search rules) (search rules) c.loop-load.yielded_by (c.in-Some.load, c.in-Some.day) c.in-Some.is c.next.ensures.steps in
    record { fits = omega (arith, run_within c.requires.0 turn.0 c.loop-load.invariant c.in-Some.day.now (turn.3 c.in-Some.day.now) c.requires.1) }

pub loop-load-preserved : goal.loop-load-preserved
loop-load-preserved c =
    let turn = zip_turn c.args.loads.now c.args.days.now c.loop-load.yielded c.into_iter-load-iterator.result c.loop-load.load-iterator c.next.new.self c.next.result (search rules) (search rules) c.loop-load.yielded_by (c.in-Some.load, c.in-Some.day) c.in-Some.is c.next.ensures.steps in
    rw (length-append, c.in_ok-push.ensures.items)
    (written_more c.requires.0 turn.0 c.loop-load.invariant c.in-Some.day.now (turn.3 c.in-Some.day.now) _ (turn.2 0) refl refl refl)
