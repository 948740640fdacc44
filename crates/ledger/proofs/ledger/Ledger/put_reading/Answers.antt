use Rattle.std.proofs.Common.{◌+◌, map, cond, is_some, vec_items, count_by, sym, refl, ap, ◌∙◌, arith}
use Rattle.std.proofs.lemmas.Bool.{lt-ltb}
use Rattle.ledger.specs.Places.{freed_place, holds_passing}
use Rattle.ledger.proofs.Openings.{written_over}
use Rattle.ledger.proofs.PlaceCounts.{count_left, count_taken, taken_left}
use Rattle.ledger.proofs.ledger.Ledger.put_reading.Goals as goal

pub unwrap-requires : goal.unwrap-requires
unwrap-requires c =
    let left = c.free_replaced.ensures ∙ ap (map (freed_place c.args.reading)) c.as_mut_slice-places.ensures.value in
    let kept = ap (count_by is_some) left ∙ taken_left c.args.reading (vec_items c.args.self.now.places) in
    c.take_place.ensures.free ∙ lt-ltb _ _ (omega (arith, kept, c.requires, c.free_replaced.auto.places, c.as_mut_slice-places.ensures.len))

pub returns : goal.returns
returns c =
    let r = c.args.reading in
    let held = vec_items c.args.self.now.places in
    let left = c.free_replaced.ensures ∙ ap (map (freed_place r)) c.as_mut_slice-places.ensures.value in
    let long = c.take_place.auto.places ∙ c.free_replaced.auto.places ∙ c.as_mut_slice-places.ensures.len in
    let written = written_over c.args.self.now.places.len c.take_place.new.places held long (sym c.args.self.now.places.ok.0) in
    record {
      opening = refl;
      gates = refl;
      intervals = refl;
      enrolments = refl;
      room = refl;
      places = λ test.
          ap (count_by (holds_passing test)) written
          ∙ count_taken r test _ _ (rw c.unwrap.ensures at c.take_place.ensures.taken)
          ∙ ap (λ places. count_by (holds_passing test) places + cond (test r) 1 0) left
          ∙ ap (λ n. n + cond (test r) 1 0) (count_left r test held);
    }
