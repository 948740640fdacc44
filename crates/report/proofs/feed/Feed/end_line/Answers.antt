use Rattle.std.proofs.Common.{Ok, Err}
use Rattle.std.proofs.KnownBytes.{Appends-nil}
use Rattle.report.proofs.FeedLemmas.{line_taken, on_ok}
use Rattle.report.proofs.feed.Feed.end_line.Goals as goal

pub returns-in-Ok : goal.returns-in-Ok
returns-in-Ok g c =
    line_taken c.args.self.now (record { intake = c.take-answer.new.self; line = c.clear.new.self }) (Ok c.in-Ok.field-0) c.bytes.result.now _ _ c.bytes.ensures c.in-Ok.ensures.law c.clear.ensures (Appends-nil (g.W.Write.contents c.args.output.now))

pub returns-in-Err : goal.returns-in-Err
returns-in-Err g c =
    on_ok c.writeln.result
    (λ wrote. line_taken c.args.self.now (record { intake = c.take-answer.new.self; line = c.clear.new.self }) (Err c.in-Err.fault) c.bytes.result.now _ _ c.bytes.ensures c.in-Err.ensures.law c.clear.ensures wrote)
    c.writeln.ensures.bytes
