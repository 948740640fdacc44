use Rattle.std.proofs.Common.{refl, arith}
use Rattle.report.proofs.FactorsLemmas.{nothing_entered}
use Rattle.report.proofs.intake.Intake.new.Goals as goal

pub returns : goal.returns
returns c = record {
  lines = refl;
  stage = (
    record { sheet = omega (arith, c.in_ok-vec.ensures.len); intervals = omega (arith, c.in_ok-vec-2.ensures.len); readings = c.in_ok-vec-3.ensures.len },
    nothing_entered c.new.result c.new.ensures.factors c.new.ensures.counts,
  );
}
