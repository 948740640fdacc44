use Rattle.std.proofs.Common.{get_or, set, None, ap, ◌∙◌, arith}
use Rattle.std.proofs.lemmas.List.Edits.{map_over_more}
use Rattle.std.proofs.lemmas.List.{get_or_default}
use Rattle.ledger.specs.Places.{freed_place}
use Rattle.ledger.proofs.places.free_replaced.Goals as goal

pub loop-place-preserved : goal.loop-place-preserved
loop-place-preserved c =
    ap (set c.loop-place.places c.loop-place.place-index) c.free_where_replaced.ensures
    ∙ map_over_more (freed_place c.args.new.now) c.args.places.now c.loop-place.places c.loop-place.place-index (get_or c.loop-place.places c.loop-place.place-index None) c.loop-place-test.true c.loop-place.invariant
    (get_or_default c.loop-place.places c.loop-place.place-index None _ (omega (arith, c.loop-place.auto.places)))
