use Rattle.std.proofs.Common.{◌≡◌, sym, ap, ◌∙◌, pos, negsuc, ◌-ℤ◌, ◌≤ℤ◌, arith, rules}
use Rattle.std.proofs.lemmas.Int.{ints, to_z-of_z}
use Rattle.std.proofs.lemmas.List.{take_all}
use Rattle.std.proofs.lemmas.List.Sums.{fold_more}
use Rattle.estimates.specs.Observations.{signed_sum}
use Rattle.estimates.proofs.ObservationLimits.{or_zero_at_most, temperature_at, within}
use Rattle.estimates.proofs.observations.Observations.coldness.Goals as goal

pub loop-t-preserved : goal.loop-t-preserved
loop-t-preserved c =
    let bounds = temperature_at c.args.self.now c.requires c.loop-t.t-index (pos 0) (search rules) in
    (grind (arith, ints, to_z-of_z, fold_more), omega (arith, ints), omega (arith, ints))

pub returns : goal.returns
returns c =
    let eight : c.loop-t.t-index ≡ 8 = omega arith in
    let summed : c.loop-t.sum ≡ signed_sum c.args.self.now.temperatures = sym c.loop-t.sum-is ∙ c.loop-t.invariant.0 ∙ ap signed_sum (take_all c.loop-t.t-index c.args.self.now.temperatures (omega arith)) in
    let low : negsuc 1599 ≤ℤ c.loop-t.sum = omega (arith, ints) in
    let high : c.loop-t.sum ≤ℤ pos 4000 = omega (arith, ints) in
    let few : (pos 1440 -ℤ signed_sum c.args.self.now.temperatures) ≤ℤ pos 3040 = rw (sym summed) (omega (arith, ints)) in
    within (search rules) (or_zero_at_most (pos 1440 -ℤ signed_sum c.args.self.now.temperatures) 3040 few)
