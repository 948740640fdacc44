use Rattle.report.proofs.ReadingLemmas.{reported}
use Rattle.report.proofs.FeedLemmas.{whatever}
use Rattle.report.proofs.input_report.report.Goals as goal

pub returns : goal.returns
returns g c = whatever c.flush.result (reported _ _ c.in_ok-feed.feed c.read.new.self _ _ _ _ c.in_ok-feed.ensures c.in_ok-read.ensures c.in_ok-finish.ensures c.flush.ensures.bytes)
