use Rattle.std.proofs.Common.{◌≡◌, ◌++◌, map, take, drop}
use Rattle.ledger.specs.Places.{freed_place}
use Rattle.ledger.proofs.places.free_replaced.Given as goal

abbrev pub invariant-loop-place : goal.invariant-loop-place
invariant-loop-place l =
    l.places ≡ map (freed_place l.new) (take l.place-index l.initial.places) ++ drop l.place-index l.initial.places
