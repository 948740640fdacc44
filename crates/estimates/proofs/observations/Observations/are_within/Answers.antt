use Rattle.std.proofs.Common.{◌≡◌, arith, rules}
use Rattle.std.specs.List.{list_all}
use Rattle.std.proofs.lemmas.Grind.{common_steps}
use Rattle.std.proofs.lemmas.Iterator.{YieldsList-from_slice}
use Rattle.std.proofs.lemmas.Iterator.Search.{all_from_yields_List}
use Rattle.estimates.specs.Observations.{temperature_within, wind_within}
use Rattle.estimates.proofs.observations.Observations.are_within.Goals as goal

pub returns-then-calm : goal.returns-then-calm
returns-then-calm c =
    let mild : c.all-mild.result ≡ list_all temperature_within c.args.self.now.temperatures =
    all_from_yields_List {all = c.args.self.now.temperatures} temperature_within _ _ _ c.all-mild.ensures.ran (YieldsList-from_slice _ (search rules)) (λ x b q k. search rules) in
    let calm : c.all-calm.result ≡ list_all wind_within c.args.self.now.winds =
    all_from_yields_List {all = c.args.self.now.winds} wind_within _ _ _ c.all-calm.ensures.ran (YieldsList-from_slice _ (search rules)) (λ x b q k. search rules) in
    grind (arith, common_steps)
