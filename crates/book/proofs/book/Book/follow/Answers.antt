use Rattle.book.proofs.Loads.{load_entry_moved}
use Rattle.book.proofs.book.Book.follow.Goals as goal

pub returns-in-Enrolled-clause-law : goal.returns-in-Enrolled-clause-law
returns-in-Enrolled-clause-law g c = rw c.in-Enrolled.is c.start_point.ensures

pub returns-in-GateEntered-clause-law : goal.returns-in-GateEntered-clause-law
returns-in-GateEntered-clause-law g c = λ s rest h lawful follows on stood.
    let moved = load_entry_moved s h c.args.entry c.in-GateEntered.day c.in-GateEntered.is lawful in
    c.reload.ensures s rest h _ moved.0 follows on moved.1 stood

pub returns-in-DegreeDaysEntered-clause-law : goal.returns-in-DegreeDaysEntered-clause-law
returns-in-DegreeDaysEntered-clause-law g c = rw c.in-DegreeDaysEntered.is (λ s rest h. c.take_count.ensures s rest h c.in-DegreeDaysEntered.count)

pub returns-in-ReadingTaken-clause-law : goal.returns-in-ReadingTaken-clause-law
returns-in-ReadingTaken-clause-law g c = rw c.in-ReadingTaken.is c.take_reading.ensures
