use Rattle.ledger.proofs.Loads.{gate_bounded, load_bounded, load_followed, no_load}
use Rattle.std.proofs.Common.{◌≤◌, Some, ap, ◌∙◌, subst, sym}
use Rattle.allocation.specs.Loads.{largest_gate}
use Rattle.ledger.proofs.ledger.Ledger.load.Goals as goal

pub load_with-requires : goal.load_with-requires
load_with-requires c = (c.if-day-self.false, gate_bounded c.args.self.now c.args.day c.in_ok-gate.gate c.in_ok-gate.was)

pub returns-then-day-self : goal.returns-then-day-self
returns-then-day-self c = record { bound = tt; law = λ s h f. no_load c.args.day f c.if-day-self.true }

pub returns : goal.returns
returns c = record {
  bound =
      subst (λ n. n ≤ largest_gate) (sym c.load_with.ensures)
      (load_bounded c.args.self.now c.args.day c.in_ok-gate.gate (gate_bounded c.args.self.now c.args.day c.in_ok-gate.gate c.in_ok-gate.was));
  law = λ s h f. ap Some c.load_with.ensures ∙ load_followed c.args.day c.in_ok-gate.gate f c.if-day-self.false c.in_ok-gate.was;
}
