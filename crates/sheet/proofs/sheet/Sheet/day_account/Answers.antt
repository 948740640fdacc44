use Rattle.std.proofs.Common.{◌≤◌, not, is_some, sym, ◌∙◌, arith, rules}
use Rattle.sheet.proofs.NewEntries.{supplied_shown_before}
use Rattle.sheet.proofs.Sums.{account_answered}
use Rattle.sheet.proofs.sheet.Sheet.day_account.Goals as goal
use Rattle.rules.specs.History.{covering_reading}

pub returns : goal.returns
returns g c = λ s rest h knows stands limited on within.
    let few : s.points ≤ 256 = omega (arith, knows.points, c.args.self.now.few_points) in
    account_answered s h knows.lawful limited few c.args.day c.args.self.now knows.points (stands.shown c.args.day within) (supplied_shown_before s h c.args.self.now stands c.args.day within)
    c.in_ok-load.load c.sum_where-supplied.result c.sum_where-generated.result c.missing_count-missing.result
    (sym (knows.loads c.args.day within) ∙ c.in_ok-load.was)
    (c.sum_where-supplied.ensures (λ p. is_some (covering_reading h p c.args.day)) (λ p answer has e. search (rules, knows)))
    (c.sum_where-generated.ensures (λ p. not (is_some (covering_reading h p c.args.day))) (λ p answer has e. search (rules, knows)))
    (c.missing_count-missing.ensures s h knows on) c.new.result c.new.ensures
