use Rattle.std.proofs.Common.{is_ok, ap, ◌∙◌}
use Rattle.allocation.specs.Loads.{adjusted, net_load}
use Rattle.ledger.proofs.Loads.{answered_ok, gate_loads, ok_same, total_adjusts}
use Rattle.ledger.proofs.ledger.Ledger.load_with.Goals as goal

pub unwrap-adjusted-requires : goal.unwrap-adjusted-requires
unwrap-adjusted-requires c =
    ap is_ok (answered_ok c.adjust_for_unaccounted.result _ _ 3 (total_adjusts c.args.self.now c.interval_total-total.result c.interval_total-total.ensures.bound) c.adjust_for_unaccounted.ensures)

pub unwrap-requires : goal.unwrap-requires
unwrap-requires c =
    let l = c.args.self.now in
    let total = c.interval_total-total.result in
    let bound = c.interval_total-total.ensures.bound in
    let value = ok_same c.unwrap-adjusted.ensures (answered_ok c.adjust_for_unaccounted.result _ _ 3 (total_adjusts l total bound) c.adjust_for_unaccounted.ensures) in
    ap is_ok (answered_ok c.net_system_load.result _ _ 3 (gate_loads l total c.unwrap-adjusted.result c.args.gate c.requires.1 bound value) c.net_system_load.ensures)

pub returns : goal.returns
returns c =
    let l = c.args.self.now in
    let gate = c.args.gate in
    let total = c.interval_total-total.result in
    let bound = c.interval_total-total.ensures.bound in
    let value = ok_same c.unwrap-adjusted.ensures (answered_ok c.adjust_for_unaccounted.result _ _ 3 (total_adjusts l total bound) c.adjust_for_unaccounted.ensures) in
    let load = ok_same c.unwrap.ensures (answered_ok c.net_system_load.result _ _ 3 (gate_loads l total c.unwrap-adjusted.result gate c.requires.1 bound value) c.net_system_load.ensures) in
    load
    ∙ ap (net_load gate.energy_in gate.energy_out) (value ∙ ap (λ n. adjusted n l.opening.unaccounted) c.interval_total-total.ensures.value)
