use Rattle.std.proofs.Common.{rules, tests}
use Rattle.std.specs.Fn.{FnReturnsAt}
use Rattle.ledger.proofs.PlaceCounts.{placed_as}
use Rattle.ledger.proofs.places.place_passes.Goals as goal

pub returns : goal.returns
returns g c = λ passes answers. placed_as passes c.args.place.now c.is_some_and.result (FnReturnsAt g.F.Fn c.args.test.now) (search (rules, tests)) answers
