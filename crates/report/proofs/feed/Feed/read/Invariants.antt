use Rattle.std.proofs.Common.{◌<◌, vec_len}
use Rattle.report.proofs.ReadingLemmas.{Halfway}
use Rattle.report.proofs.feed.Feed.read.Given as goal

-- there is room for a piece, and the bytes so far were taken
abbrev pub invariant-loop : goal.invariant-loop
invariant-loop g l =
    (0 < vec_len l.piece) × Halfway (g.R.Read.remaining l.initial.input) (g.R.Read.remaining l.input) l.initial.self l.self (g.W.Write.contents l.initial.output) (g.W.Write.contents l.output)
