use Rattle.std.proofs.Common.{◌≡◌, ◌+◌, not, ap, ◌∙◌, rules}
use Rattle.std.specs.Prelude.{position}
use Rattle.std.specs.Option.{option_map, option_or}
use Rattle.std.proofs.lemmas.Iterator.{YieldsList-from_slice}
use Rattle.std.proofs.lemmas.Iterator.Search.{position_from_yields_List}
use Rattle.estimates.specs.Observations.{temperature_within, wind_within}
use Rattle.degreedays.specs.Word.{first_beyond, ok_unless}
use Rattle.degreedays.specs.declared.word.Word.TheVariants as word
use Rattle.degreedays.proofs.Faults.{refused_for}
use Rattle.degreedays.proofs.reckoning.first_beyond.Goals as goal

pub returns : goal.returns
returns c =
    let cold : c.position-temperature.result ≡ position (λ t. not (temperature_within t)) c.args.observations.now.temperatures =
    position_from_yields_List {all = c.args.observations.now.temperatures} (λ t. not (temperature_within t)) _ _ _ c.position-temperature.ensures.ran (YieldsList-from_slice _ (search rules)) (λ x b q k. search rules) in
    let windy : c.position-wind.result ≡ position (λ w. not (wind_within w)) c.args.observations.now.winds =
    position_from_yields_List {all = c.args.observations.now.winds} (λ w. not (wind_within w)) _ _ _ c.position-wind.ensures.ran (YieldsList-from_slice _ (search rules)) (λ x b q k. search rules) in
    let temperature : c.map.result ≡ option_map word.Temperature (option_map (λ n. n + 1) c.position-temperature.result) = search rules in
    let wind : c.map-2.result ≡ option_map word.Wind (option_map (λ n. n + 1) c.position-wind.result) = search rules in
    let either : c.or.result ≡ option_or c.map.result c.map-2.result = search rules in
    let found : c.or.result ≡ first_beyond c.args.observations.now = cc in
    refused_for c.or.result c.map_or.result c.map_or.ensures ∙ ap (λ word. ok_unless word tt) found
