use Rattle.std.specs.Io.KnownBytes.{Keeps}
use Rattle.report.proofs.feed.read_piece.Given as goal

-- interrupted reads took nothing
abbrev pub invariant-loop : goal.invariant-loop
invariant-loop g l = Keeps (g.R.Read.remaining l.initial.input) (g.R.Read.remaining l.input)
