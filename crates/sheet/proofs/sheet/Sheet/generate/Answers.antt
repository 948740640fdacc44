use Rattle.std.proofs.Common.{◌≡◌, ◌<◌, ◌≤◌, ◌∙◌, arith}
use Rattle.rules.specs.Figures.{supplied_sum}
use Rattle.rules.proofs.Bounds.{supplied_sum_bounded}
use Rattle.sheet.specs.Scaling.{note_of, scaled_estimates}
use Rattle.sheet.proofs.GeneratedFigures.{supplied_shown}
use Rattle.sheet.proofs.sheet.Sheet.generate.Goals as goal

pub returns : goal.returns
returns g c = λ s h knows on shows.
    let sheet = c.args.self.now in
    let few : s.points ≤ 256 = omega (arith, knows.points, sheet.few_points) in
    let day : c.args.day < s.days = omega (arith, knows.days, c.requires.1) in
    let passes = c.gather-supplied.ensures.supplied s h knows in
    let bounded = supplied_sum_bounded s h knows.lawful few c.args.day in
    let supplied : c.gather-supplied.result ≡ supplied_sum s h c.args.day = omega (arith, passes, bounded, supplied_shown s h sheet c.args.day knows.points shows) in
    let estimates = c.gather-supplied.ensures.estimates s h knows on in (
      c.scale.ensures.figures ∙ (λ i. scaled_estimates (knows.loads c.args.day day i) (supplied i) (estimates i)),
      c.scale.ensures.note ∙ (λ i. note_of (knows.loads c.args.day day i) (supplied i) (estimates i)),
    )
