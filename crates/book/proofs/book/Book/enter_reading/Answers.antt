use Rattle.std.proofs.Common.{refl}
use Rattle.book.proofs.book.Book.enter_reading.Goals as goal

pub returns-clause-law : goal.returns-clause-law
returns-clause-law g c = c.take_in.ensures.law _ c.args.self.now record { sheet = refl; answered = c.enter_reading-answer.ensures.law; beyond = c.enter_reading-answer.ensures.beyond; no_count = refl }
