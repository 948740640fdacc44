use Rattle.std.proofs.Common.{◌*◌, ◌/◌, ◌^◌, ap₂, ap, ◌∙◌, arith}
use Rattle.allocation.proofs.DivisionByReciprocal.{reciprocal_means, reciprocal_divides}
use Rattle.allocation.proofs.divisor.Divisor.quotient.Goals as goal

pub returns-then-number-lt-RECIPROCAL_LIMIT : goal.returns-then-number-lt-RECIPROCAL_LIMIT
returns-then-number-lt-RECIPROCAL_LIMIT c =
    let known = reciprocal_means c.args.self.by c.args.self.reciprocal c.args.self.exact c.if-self-gt0.true in
    ap (λ x. x / 2 ^ 64) (ap₂ ◌*◌ c.from.ensures c.from-then-number-lt-RECIPROCAL_LIMIT.ensures)
    ∙ reciprocal_divides c.args.self.by c.args.self.reciprocal c.args.number c.requires known.0 known.1 (omega (arith, c.if-number-lt-RECIPROCAL_LIMIT.true))
