use Rattle.std.proofs.Common.{refl}
use Rattle.std.proofs.lemmas.Result.{err_from_is_err_and}
use Rattle.ledger.proofs.Entries.{interval_beyond, interval_followed}
use Rattle.ledger.proofs.ledger.Ledger.enter_interval.Goals as goal

pub returns-in_err-day : goal.returns-in_err-day
returns-in_err-day c =
    let p = err_from_is_err_and c.from_residual.result c.from_residual.ensures.1 in
    rw (p.1, p.2) record { refused = refl; law = λ s h f. (c.in_err-day.ensures.law s h f, f); beyond = refl }

pub returns : goal.returns
returns c =
    let fits = c.in_ok-day.ensures.fits in
    record {
      refused = tt;
      law = λ s h f.
          (c.in_ok-day.ensures.law s h f, interval_followed c.put_interval.ensures.after fits.0 fits.1.0 fits.1.1.0 c.put_interval.ensures.within f);
      beyond = interval_beyond c.put_interval.ensures.after fits.0 fits.1.0 fits.1.1.0;
    }
