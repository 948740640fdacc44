use Rattle.ledger.proofs.Entries.{reading_followed, same_beyond}
use Rattle.ledger.proofs.ledger.Ledger.enter_reading.Goals as goal

pub returns : goal.returns
returns c = record {
  refused = tt;
  law = λ s h f. (c.in_ok-reading.ensures.law s h f, reading_followed c.put_reading.ensures f);
  beyond = same_beyond c.args.self.now c.put_reading.new.self c.put_reading.ensures.opening c.put_reading.ensures.intervals;
}
