use Rattle.std.proofs.Common.{◌+◌, ◌-◌, ◌*◌, vec_items, arith}
use Rattle.ledger.specs.Limits.{interval_within}
use Rattle.ledger.proofs.Tables.{front_passes}
use Rattle.ledger.proofs.ledger.Ledger.put_interval.Goals as goal

pub invariant_of-self : goal.invariant_of-self
invariant_of-self c =
    let l = c.args.self.now in record {
      opened = l.opened;
      gates_within = l.gates_within;
      intervals_long = l.intervals_long;
      intervals_within = front_passes interval_within (l.opening.days * 32) (vec_items l.intervals) (c.args.day * 32 + (c.args.meter - 1)) c.args.energy (omega (arith, l.intervals_long, l.intervals.ok.0, c.requires)) c.requires.1.1.1
          l.intervals_within;
    }
