use Rattle.std.proofs.Common.{ℕ, List, [], ◌∷◌, get_or, take, sym, refl, ap, subst}
use Rattle.std.proofs.lemmas.List.{take_all, take_more}
use Rattle.report.specs.declared.feed.Feed.{Feed}
use Rattle.report.proofs.FeedLemmas.{line_feed_taken, other_byte_taken, writes_more}
use Rattle.report.proofs.feed.Feed.take.Goals as goal
use Rattle.report.proofs.feed.Feed.take.Goals.{then-byte-eq10+in_ok-end_line, else-byte-eq10}
use Rattle.report.specs.Feed.{TakesBytes}

pub loop-byte-preserved : goal.loop-byte-preserved
loop-byte-preserved g c =
    let b = c.loop-byte.self in
    let pushed : Feed = record { intake = c.loop-byte.self.intake; line = c.push.new.self } in
    let byte = get_or c.args.bytes.now c.loop-byte.byte-index 0 in
    let one : TakesBytes (get_or c.args.bytes.now c.loop-byte.byte-index 0 ∷ []) c.loop-byte.self c.if-byte-eq10.self (g.W.Write.contents c.loop-byte.output) (g.W.Write.contents c.if-byte-eq10.output) =
    elim c.if-byte-eq10.branch [
      | then-byte-eq10+in_ok-end_line w ↦
          line_feed_taken byte b pushed w.end_line.new.self c.if-byte-eq10.self _ _ _ w.if-byte-eq10.true w.self-is (ap g.W.Write.contents w.output-is) refl c.push.ensures w.in_ok-end_line.ensures
      | else-byte-eq10 w ↦
          other_byte_taken byte b pushed c.if-byte-eq10.self _ _ w.if-byte-eq10.false w.self-is (ap g.W.Write.contents w.output-is) refl c.push.ensures
    ] in
    subst (λ (xs : List ℕ). TakesBytes xs c.args.self.now c.if-byte-eq10.self (g.W.Write.contents c.args.output.now) (g.W.Write.contents c.if-byte-eq10.output)) (sym (take_more c.args.bytes.now c.loop-byte.byte-index _ c.loop-byte-test.true))
    (writes_more (take c.loop-byte.byte-index c.args.bytes.now) _ c.args.self.now c.loop-byte.self c.if-byte-eq10.self _ _ _ c.loop-byte.invariant one)

pub returns : goal.returns
returns g c =
    subst (λ (xs : List ℕ). TakesBytes xs c.args.self.now c.loop-byte.self (g.W.Write.contents c.args.output.now) (g.W.Write.contents c.loop-byte.output)) (take_all c.loop-byte.byte-index c.args.bytes.now c.loop-byte-test.false) c.loop-byte.invariant
