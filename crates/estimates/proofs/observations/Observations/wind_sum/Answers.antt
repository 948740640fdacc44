use Rattle.std.proofs.Common.{◌≡◌, ◌<◌, ◌^◌, sum, arith, rules}
use Rattle.std.proofs.iter.runs.Made.{chains}
use Rattle.estimates.proofs.ObservationLimits.{winds_sum}
use Rattle.estimates.proofs.observations.Observations.wind_sum.Goals as goal

pub sum-requires-clause-fits : goal.sum-requires-clause-fits
sum-requires-clause-fits c =
    let small = winds_sum c.args.self.now c.requires (search rules) in
    let fits : sum c.args.self.now.winds < 2 ^ 32 = omega arith in
    search (rules, chains)

pub returns : goal.returns
returns c =
    let small = winds_sum c.args.self.now c.requires (search rules) in
    let value : c.sum.result ≡ sum c.args.self.now.winds = search (rules, chains) in
    (value, omega arith)
