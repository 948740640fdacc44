use Rattle.std.proofs.lemmas.Result.{err_from_is_err_and}
use Rattle.ledger.proofs.ReadingRefusals.{numbers_refused, reading_accepted, span_refused}
use Rattle.ledger.proofs.ledger.Ledger.judge_reading.Goals as goal

pub returns-in_err-reading : goal.returns-in_err-reading
returns-in_err-reading c =
    let p = err_from_is_err_and c.from_residual.result c.from_residual.ensures.1 in
    rw (p.1, p.2) record { fits = tt; law = λ s h f. numbers_refused s h c.args.delivery _ (c.in_err-reading.ensures.law s h f) }

pub returns-in_err-judge_span : goal.returns-in_err-judge_span
returns-in_err-judge_span c =
    let p = err_from_is_err_and c.from_residual-in_err-judge_span.result c.from_residual-in_err-judge_span.ensures.1 in
    rw (p.1, p.2) record {
      fits = tt;
      law = λ s h f. span_refused s h c.args.delivery c.in_ok-reading.reading _ (c.in_ok-reading.ensures.law s h f) (c.in_err-judge_span.ensures.law s h f);
    }

pub returns : goal.returns
returns c = record {
  fits = c.in_ok-judge_span.ensures.fits;
  law = λ s h f. reading_accepted s h c.args.delivery c.in_ok-reading.reading (c.in_ok-reading.ensures.law s h f) (c.in_ok-judge_span.ensures.law s h f);
}
