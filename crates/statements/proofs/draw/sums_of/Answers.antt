use Rattle.std.proofs.lemmas.Result.{err_from_is_err_and}
use Rattle.statements.specs.Draws.{draw_named, draw_refusal}
use Rattle.statements.specs.Sums.{SumsOf}
use Rattle.statements.proofs.DrawRefusals.{judged_ok}
use Rattle.statements.proofs.draw.sums_of.Goals as goal

pub returns-in_err-days-clause-law : goal.returns-in_err-days-clause-law
returns-in_err-days-clause-law g c =
    let p = err_from_is_err_and c.from_residual.result c.from_residual.ensures.1 in
    rw (p.1, p.2) (record { law = λ case f. c.in_err-days.ensures.law.law case f })

pub returns-clause-law : goal.returns-clause-law
returns-clause-law g c = record {
  law = λ case f.
      let judged = c.in_ok-days.ensures.law.law case f in
      judged_ok (SumsOf case.setting case.history c.args.span) (draw_refusal case.setting case.history c.args.span c.args.wanted c.args.places)
      (draw_named case.setting case.history c.args.span) c.sums_over.result judged.0 (c.sums_over.ensures.law case f c.args.span judged.1.0 judged.1.1);
}
