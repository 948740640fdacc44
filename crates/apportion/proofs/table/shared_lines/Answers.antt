use Rattle.std.proofs.Common.{refl, ap, ◌∙◌}
use Rattle.std.proofs.lemmas.Bool.{both_ways}
use Rattle.terms.specs.Answers.{refused_since}
use Rattle.apportion.specs.Table.{lines_of}
use Rattle.apportion.proofs.Days.{always_shared, lines_of_shared}
use Rattle.apportion.proofs.table.shared_lines.Goals as goal

pub returns-in_err-share : goal.returns-in_err-share
returns-in_err-share c =
    let can = always_shared c.args.energy c.args.loads.now c.args.days.now c.requires.sized c.requires.weighed in
    let refused = refused_since _ _ _ _ c.in_err-share.ensures.answer in
    absurd (both_ways _ refused.0 can)

pub returns : goal.returns
returns c =
    let can = always_shared c.args.energy c.args.loads.now c.args.days.now c.requires.sized c.requires.weighed in (
      refl,
      c.in_ok-day_lines.ensures ∙ ap (lines_of c.args.loads.now) (rw can at c.share.ensures.rows)
          ∙ lines_of_shared _ _ _ c.requires.weighed,
    )
