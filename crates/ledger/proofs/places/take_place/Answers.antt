use Rattle.std.proofs.Common.{◌≡◌, rules, tests, true, false, is_some, is_ok, None, sym, ap, ◌∙◌, arith}
use Rattle.std.proofs.lemmas.Bool.{le-ltb, lt-ltb}
use Rattle.std.proofs.lemmas.Iterator.{IsFirst-from_position, YieldsList-from_slice}
use Rattle.std.proofs.lemmas.Result.{err_from_is_err_and}
use Rattle.ledger.proofs.PlaceCounts.{all_taken, none_since, one_free}
use Rattle.ledger.proofs.places.take_place.Goals as goal

pub returns-clause-free : goal.returns-clause-free
returns-clause-free c =
    let first = IsFirst-from_position _ _ _ (λ place. is_some place ≡ false) (λ place. is_some place ≡ true) (rw c.in_ok-free.ensures.ok_part at c.position.ensures.ran) (YieldsList-from_slice c.args.places.now cc) (λ x q k. search (rules, tests)) (λ x q k. search (rules, tests)) in
    sym (lt-ltb _ _ (one_free c.args.places.now c.in_ok-free.free c.args.reading first.0 (none_since _ (first.1 None))))

pub returns-in_err-free-clause-free : goal.returns-in_err-free-clause-free
returns-in_err-free-clause-free c =
    let refused = err_from_is_err_and c.from_residual.result c.from_residual.ensures.1 in
    let none = IsFirst-from_position _ _ _ (λ place. is_some place ≡ false) (λ place. is_some place ≡ true) (rw c.in_err-free.ensures.ok_part at c.position.ensures.ran) (YieldsList-from_slice c.args.places.now cc) (λ x q k. search (rules, tests)) (λ x q k. search (rules, tests)) in
    ap is_ok refused.1 ∙ sym (le-ltb _ _ (omega (arith, all_taken c.args.places.now (λ k below. none k None (omega arith) below))))
