use Rattle.std.proofs.Common.{refl}
use Rattle.std.proofs.lemmas.Result.{err_from_is_err_and}
use Rattle.ledger.proofs.Entries.{gate_followed, same_beyond}
use Rattle.ledger.proofs.ledger.Ledger.enter_gate.Goals as goal

pub returns-in_err-day : goal.returns-in_err-day
returns-in_err-day c =
    let p = err_from_is_err_and c.from_residual.result c.from_residual.ensures.1 in
    rw (p.1, p.2) record { refused = refl; law = λ s h f. (c.in_err-day.ensures.law s h f, f); beyond = refl }

pub returns : goal.returns
returns c = record {
  refused = tt;
  law = λ s h f. (c.in_ok-day.ensures.law s h f, gate_followed c.put_gate.ensures.after c.in_ok-day.ensures.fits.0 c.put_gate.ensures.within f);
  beyond = same_beyond c.args.self.now c.put_gate.new.self c.put_gate.ensures.after.opening c.put_gate.ensures.after.intervals;
}
