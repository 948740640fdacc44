use Rattle.report.proofs.FeedLemmas.{finishes_plainly, finishes_with_line, no_bytes, on_ok, some_bytes}
use Rattle.report.proofs.feed.Feed.finish.Goals.{then-not-is_empty+in_ok-end_line, else-not-is_empty}
use Rattle.report.proofs.feed.Feed.finish.Goals as goal

pub returns : goal.returns
returns g c = elim c.if-not-is_empty.branch [
  | then-not-is_empty+in_ok-end_line w ↦ on_ok c.write_days.result
      (λ days. finishes_with_line c.args.self w.end_line.new.self _ (g.W.Write.contents w.end_line.new.output) _ (some_bytes c.args.self.line c.is_empty.result c.is_empty.ensures w.if-not-is_empty.true) w.in_ok-end_line.ensures
      (rw (w.self-is, w.output-is) at days)) c.write_days.ensures
  | else-not-is_empty w ↦ on_ok c.write_days.result
      (λ days. finishes_plainly c.args.self _ _ (no_bytes c.args.self.line c.is_empty.result c.is_empty.ensures w.if-not-is_empty.false)
      (rw (w.self-is, w.output-is) at days)) c.write_days.ensures
]
