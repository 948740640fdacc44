use Rattle.std.proofs.Common.{take}
use Rattle.report.proofs.feed.Feed.take.Given as goal
use Rattle.report.specs.Feed.{TakesBytes}

-- the bytes so far were taken
abbrev pub invariant-loop-byte : goal.invariant-loop-byte
invariant-loop-byte g l = TakesBytes (take l.byte-index l.bytes) l.initial.self l.self (g.W.Write.contents l.initial.output) (g.W.Write.contents l.output)
