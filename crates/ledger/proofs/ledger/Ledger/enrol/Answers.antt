use Rattle.std.proofs.Common.{refl}
use Rattle.std.proofs.lemmas.Result.{err_from_is_err_and}
use Rattle.ledger.proofs.Entries.{enrolment_followed, same_beyond}
use Rattle.ledger.proofs.ledger.Ledger.enrol.Goals as goal

pub returns-in_err-enrolment : goal.returns-in_err-enrolment
returns-in_err-enrolment c =
    let p = err_from_is_err_and c.from_residual.result c.from_residual.ensures.1 in
    rw (p.1, p.2) record { refused = refl; law = λ s h f. (c.in_err-enrolment.ensures.law s h f, f); beyond = refl }

pub returns : goal.returns
returns c =
    let judged = c.in_ok-enrolment.ensures in
    record {
      refused = tt;
      law = λ s h f. (judged.law s h f, enrolment_followed c.put_enrolment.ensures.after judged.fits.0 judged.fits.1 c.put_enrolment.ensures.within f);
      beyond = same_beyond c.args.self.now c.put_enrolment.new.self c.put_enrolment.ensures.after.opening c.put_enrolment.ensures.after.intervals;
    }
