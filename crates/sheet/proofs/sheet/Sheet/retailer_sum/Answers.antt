use Rattle.std.proofs.Common.{◌≤◌, arith, rules}
use Rattle.rules.specs.History.{enrolment_of}
use Rattle.sheet.proofs.Sums.{retailer_answered}
use Rattle.sheet.proofs.sheet.Sheet.retailer_sum.Goals as goal
use Rattle.rules.specs.Figures.{belongs_to}

pub returns : goal.returns
returns c = λ s rest h knows stands limited within.
    let few : s.points ≤ 256 = omega (arith, knows.points, c.args.self.now.few_points) in
    retailer_answered s h knows.lawful limited few c.args.day c.args.self.now knows.points (stands.shown c.args.day within) c.args.retailer c.sum_where.result
    (c.sum_where.ensures (λ p. belongs_to (enrolment_of h p) c.args.retailer) (λ p answer has e. search (rules, knows)))
