use Rattle.rules.proofs.AcceptedEntries.{held_in_book}
use Rattle.rules.proofs.reading_laws.held_readings_lie_in_the_book.Goals as goal

pub returns : goal.returns
returns c = held_in_book
