use Rattle.std.proofs.Common.{take}
use Rattle.report.proofs.ReadingLemmas.{writes_after}
use Rattle.report.proofs.feed.Feed.take_piece.Goals as goal

pub returns : goal.returns
returns g c = (
  take c.in_ok-count.count c.read_piece.new.piece,
  c.in_ok-count.ensures.bytes.0,
  λ none room. c.in_ok-count.ensures.bytes.1 none (rw c.read_piece.auto.piece room),
  writes_after (take c.in_ok-count.count c.read_piece.new.piece) c.args.self.now c.take.new.self _ _ _ c.flush.ensures.bytes c.in_ok-take.ensures,
)
