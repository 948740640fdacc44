use Rattle.std.proofs.Common.{◌<◌, true, rules, sym, ◌∙◌, subst, arith}
use Rattle.std.proofs.lemmas.Bool.{leb-true}
use Rattle.rules.proofs.Bounds.{load_bounded}
use Rattle.sheet.specs.SheetOfHistory.{IsTrueNote}
use Rattle.sheet.proofs.DayNotes.{left_settled, nothing_settled, unloaded_settled, within_settled}
use Rattle.sheet.proofs.sheet.Sheet.stands_by_its_note.Goals as goal

pub returns-in-NothingEstimated-clause-law : goal.returns-in-NothingEstimated-clause-law
returns-in-NothingEstimated-clause-law c = λ l s h knows ready yes.
    let b = c.args.self.now in
    let noted = subst (IsTrueNote s h c.args.self.now c.args.day) c.in-NothingEstimated.is ready.1 in
    nothing_settled s h b c.args.day ready.0 noted

pub returns-in-Some-clause-law : goal.returns-in-Some-clause-law
returns-in-Some-clause-law c = λ l s h knows ready yes.
    let b = c.args.self.now in
    let day = c.args.day in
    let n = c.in-Some.load in
    let noted = subst (IsTrueNote s h c.args.self.now c.args.day) c.in-EstimatesShown.is ready.1 in
    let within : c.args.day < s.days = omega (arith, knows.days, c.requires) in
    let loaded = sym (knows.loads c.args.day within) ∙ c.in-Some.is in
    within_settled s h b day n c.sum_where.result knows.points loaded (load_bounded s h knows.lawful day n loaded)
    (c.sum_where.ensures (λ p. true) (λ p answer has e. search rules)) (leb-true c.sum_where.result n yes) ready.0 noted

pub returns-in-None-clause-law : goal.returns-in-None-clause-law
returns-in-None-clause-law c = λ l s h knows ready yes.
    let noted = subst (IsTrueNote s h c.args.self.now c.args.day) c.in-EstimatesShown.is ready.1 in
    let within : c.args.day < s.days = omega (arith, knows.days, c.requires) in
    unloaded_settled s h c.args.self.now c.args.day (sym (knows.loads c.args.day within) ∙ c.in-None.is) ready.0 noted

pub returns-in-Some-loads-clause-law : goal.returns-in-Some-loads-clause-law
returns-in-Some-loads-clause-law c = λ l s h knows ready yes.
    let b = c.args.self.now in
    let day = c.args.day in
    let n = c.in-Some-loads.load in
    let noted = subst (IsTrueNote s h c.args.self.now c.args.day) c.in-NothingLeft.is ready.1 in
    let within : c.args.day < s.days = omega (arith, knows.days, c.requires) in
    left_settled s h b day n c.sum_where-in-Some-loads.result knows.points (sym (knows.loads c.args.day within) ∙ c.in-Some-loads.is)
    (c.sum_where-in-Some-loads.ensures (λ p. true) (λ p answer has e. search rules)) (leb-true n c.sum_where-in-Some-loads.result yes) ready.0 noted
