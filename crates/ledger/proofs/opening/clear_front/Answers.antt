use Rattle.std.proofs.Common.{◌++◌, drop, ap, ◌∙◌}
use Rattle.ledger.proofs.Openings.{cleared_front}
use Rattle.ledger.proofs.opening.clear_front.Goals as goal

pub returns : goal.returns
returns c =
    ap (λ front. front ++ drop c.min-n.result c.args.list.now) (c.fill.ensures.after (λ y same. same))
    ∙ cleared_front c.args.n c.min-n.result c.args.list.now c.min-n.ensures
