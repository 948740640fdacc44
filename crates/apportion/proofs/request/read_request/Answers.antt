use Rattle.std.proofs.Common.{◌+◌, length, Ok, string_bytes, refl, length-append, arith}
use Rattle.std.proofs.lemmas.List.{length-map}
use Rattle.std.proofs.lemmas.Iterator.{YieldsList-from_slice}
use Rattle.std.proofs.lemmas.Iterator.Adapters.{YieldsList-from_skip}
use Rattle.std.proofs.lemmas.Iterator.Consumers.{YieldsList-at, YieldsList-from_enumerate, YieldsList-turn}
use Rattle.std.proofs.lemmas.Result.{err_from_is_err_and}
use Rattle.apportion.specs.Request.{texts}
use Rattle.apportion.proofs.Requests.{load_limit, read_more, reads_alike, refused_at, text_at, turn_at}
use Rattle.apportion.proofs.request.read_request.Goals as goal

pub returns-in_err-number_at : goal.returns-in_err-number_at
returns-in_err-number_at c =
    let road = YieldsList-at c.into_iter-index-iterator.ensures.into_iter_gives
    (YieldsList-from_skip 1 (YieldsList-at c.skip-index-items.ensures.source
    (YieldsList-from_enumerate (YieldsList-at c.enumerate.ensures.source (YieldsList-from_slice c.args.words.now cc)) (cc))) (cc)) in
    let turn = YieldsList-turn road c.loop-index.yielded c.loop-index.index-iterator c.loop-index.yielded_by c.next.result c.next.new.self (c.in-Some.index, c.in-Some.word) c.in-Some.is c.next.ensures.steps in
    let here = turn_at c.args.words.now _ c.in-Some.index c.in-Some.word.now turn.0 turn.1 in
    let text = text_at c.args.words.now here.within here.word_is c.as_str-in-loop-index.ensures.value in
    let fault = err_from_is_err_and c.from_residual-in_err-number_at.result c.from_residual-in_err-number_at.ensures.1 in
    rw (fault.1, fault.2)
    (refused_at (texts c.args.words.now) (length c.loop-index.yielded + 1) _ _ here.index_is text (load_limit _ (omega arith)) (rw (length-map c.args.words.now string_bytes) here.within) c.loop-index.invariant.good c.in_err-number_at.ensures)

pub loop-index-preserved : goal.loop-index-preserved
loop-index-preserved c =
    let road = YieldsList-at c.into_iter-index-iterator.ensures.into_iter_gives
    (YieldsList-from_skip 1 (YieldsList-at c.skip-index-items.ensures.source
    (YieldsList-from_enumerate (YieldsList-at c.enumerate.ensures.source (YieldsList-from_slice c.args.words.now cc)) (cc))) (cc)) in
    let turn = YieldsList-turn road c.loop-index.yielded c.loop-index.index-iterator c.loop-index.yielded_by c.next.result c.next.new.self (c.in-Some.index, c.in-Some.word) c.in-Some.is c.next.ensures.steps in
    let here = turn_at c.args.words.now _ c.in-Some.index c.in-Some.word.now turn.0 turn.1 in
    let text = text_at c.args.words.now here.within here.word_is c.as_str-in-loop-index.ensures.value in
    rw (length-append, c.in_ok-push.ensures.items)
    (read_more _ (omega arith) (rw (length-map c.args.words.now string_bytes) here.within) c.loop-index.invariant (reads_alike (Ok c.in_ok-number_at.field-0) text refl c.in_ok-number_at.ensures))
