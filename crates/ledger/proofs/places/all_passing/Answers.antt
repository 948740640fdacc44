use Rattle.std.proofs.Common.{rules, tests}
use Rattle.std.proofs.lemmas.Iterator.{YieldsList-from_slice}
use Rattle.std.proofs.lemmas.Iterator.Search.{all_from_yields_List}
use Rattle.ledger.specs.Places.{holds_passing}
use Rattle.ledger.proofs.places.all_passing.Goals as goal

pub returns : goal.returns
returns g c = λ passes answers.
    all_from_yields_List (holds_passing passes) _ _ c.all.result c.all.ensures.ran (YieldsList-from_slice c.args.places.now cc) (λ x b q k. search (rules, tests, answers))
