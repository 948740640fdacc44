use Rattle.std.proofs.Common.{arith}
use Rattle.report.proofs.ReadingLemmas.{at_start, last_piece, one_piece}
use Rattle.report.proofs.feed.Feed.read.Goals as goal

pub loop-init : goal.loop-init
loop-init g c = (omega (arith, c.in_ok-piece.ensures.len), at_start (g.R.Read.remaining c.args.input.now) c.args.self.now (g.W.Write.contents c.args.output.now))

pub returns-then-branch-eq0 : goal.returns-then-branch-eq0
returns-then-branch-eq0 g c =
    last_piece _ _ _ c.args.self.now c.loop.self c.take_piece.new.self _ _ _ c.loop.invariant.1 c.in_ok-take_piece.ensures c.if-branch-eq0.true (omega (arith, c.as_mut_slice.ensures.len, c.loop.invariant.0))

pub loop-preserved : goal.loop-preserved
loop-preserved g c = (c.loop.invariant.0, one_piece _ _ _ c.args.self.now c.loop.self c.take_piece.new.self _ _ _ c.loop.invariant.1 c.in_ok-take_piece.ensures)
