use Rattle.report.proofs.FactorsLemmas.{factors_entered}
use Rattle.report.proofs.intake.Intake.enter_factors.Goals as goal

pub returns-clause-law : goal.returns-clause-law
returns-clause-law c =
    factors_entered c.args.factors c.args.self.now.stage c.args.self.now.weather c.enter_factors.new.self c.enter_factors.result c.map_err.result c.requires.within c.requires.turn c.enter_factors.ensures.answer c.enter_factors.ensures.factors c.enter_factors.ensures.counts c.map_err.ensures.variant
