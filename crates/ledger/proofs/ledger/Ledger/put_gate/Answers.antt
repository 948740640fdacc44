use Rattle.std.proofs.Common.{Some}
use Rattle.estimators.proofs.Tables.{written_passes}
use Rattle.ledger.specs.Limits.{gate_within}
use Rattle.ledger.proofs.ledger.Ledger.put_gate.Goals as goal

pub invariant_of-self : goal.invariant_of-self
invariant_of-self c =
    let l = c.args.self.now in
    record { opened = l.opened; gates_within = written_passes gate_within l.gates c.args.day (Some c.args.gate) c.requires.1 l.gates_within; intervals_long = l.intervals_long; intervals_within = l.intervals_within }
