use Rattle.std.proofs.Common.{◌∙◌, arith}
use Rattle.std.proofs.lemmas.Iterator.{YieldsList-from_slice}
use Rattle.std.proofs.lemmas.Iterator.Consumers.{fits_from_yields_list, sum_from_yields_List}
use Rattle.ledger.proofs.Loads.{day_energies, row_of}
use Rattle.ledger.proofs.ledger.Ledger.interval_total.Goals as goal

pub sum-requires-clause-fits : goal.sum-requires-clause-fits
sum-requires-clause-fits c =
    let energies = day_energies c.args.self.now c.args.day 32 c.requires (omega arith) in
    fits_from_yields_list c.iter.result _ (YieldsList-from_slice _ (c.iter.ensures.rest ∙ row_of c.args.day c.deref.ensures.value)) (omega (arith, energies.1))

pub returns : goal.returns
returns c =
    let energies = day_energies c.args.self.now c.args.day 32 c.requires (omega arith) in
    let total = sum_from_yields_List c.iter.result c.sum.result c.sum.ensures.ran (YieldsList-from_slice _ (c.iter.ensures.rest ∙ row_of c.args.day c.deref.ensures.value)) in
    record { value = total ∙ energies.0; bound = omega (arith, total, energies.1) }
