use Rattle.book.proofs.Calls.{same_follows}
use Rattle.book.proofs.Opening.{made_holds, refused_holds}
use Rattle.book.proofs.book.Book.open_and_serve.Goals as goal

pub returns-clause-unserved : goal.returns-clause-unserved
returns-clause-unserved g c = λ failed.
    let estimator = c.args.estimator.now in
    let follows = c.in_ok-book.ensures.law.1 _ (g.met.E.Estimator.bounded estimator) (g.met.E.Weather.bounded_under estimator) in
    let untouched = refused_holds c.serve-outcome.result _ c.serve-outcome.ensures.refused failed in
    (untouched.1, untouched.2, same_follows untouched.0 follows)

pub returns-clause-law : goal.returns-clause-law
returns-clause-law g c = λ ok.
    let estimator = c.args.estimator.now in
    made_holds c.serve-outcome.result _ c.serve-outcome.ensures.law ok _ (c.in_ok-book.ensures.law.1 _ (g.met.E.Estimator.bounded estimator) (g.met.E.Weather.bounded_under estimator))
