use Rattle.std.proofs.Common.{not, leb, count_by, vec_items, rules, sym, ap, ◌∙◌, tests}
use Rattle.rules.specs.Readings.{replaces}
use Rattle.ledger.specs.Places.{holds_passing}
use Rattle.ledger.proofs.PlaceCounts.{all_counted}
use Rattle.ledger.proofs.ledger.Ledger.is_full_beside.Goals as goal

pub returns : goal.returns
returns c =
    let places = c.args.self.now.places in
    rw c.as_slice.ensures.value at (c.all_passing.ensures (λ old. not (replaces c.args.reading.now old)) (λ r b k. search (rules, tests)))
    ∙ all_counted (holds_passing (λ old. not (replaces c.args.reading.now old))) (vec_items places)
    ∙ ap (λ n. leb n (count_by (holds_passing (λ old. not (replaces c.args.reading.now old))) (vec_items places))) (sym places.ok.0)
