use Rattle.report.proofs.FeedLemmas.{nothing_yet}
use Rattle.report.proofs.feed.Feed.new.Goals as goal

pub returns : goal.returns
returns c = nothing_yet _ c.in_ok-intake.ensures c.new-line.ensures
