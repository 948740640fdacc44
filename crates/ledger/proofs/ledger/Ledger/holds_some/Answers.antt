use Rattle.std.proofs.Common.{vec_items, ◌∙◌}
use Rattle.ledger.specs.Places.{holds_passing}
use Rattle.ledger.proofs.PlaceCounts.{any_counted}
use Rattle.ledger.proofs.ledger.Ledger.holds_some.Goals as goal

pub returns : goal.returns
returns g c = λ passes answers. rw c.as_slice.ensures.value at (c.some_passing.ensures passes answers) ∙ any_counted (holds_passing passes) (vec_items c.args.self.now.places)
