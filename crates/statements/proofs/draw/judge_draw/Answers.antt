use Rattle.std.proofs.Common.{refl, arith}
use Rattle.std.proofs.lemmas.Bool.{le-ltb, lt-ltb}
use Rattle.std.proofs.lemmas.Result.{err_from_is_err_and}
use Rattle.statements.proofs.DrawRefusals.{all_loaded, by_list, refused_by_load, refused_by_span}
use Rattle.statements.proofs.draw.judge_draw.Goals as goal

pub returns-in_err-days-clause-law : goal.returns-in_err-days-clause-law
returns-in_err-days-clause-law g c =
    let p = err_from_is_err_and c.from_residual.result c.from_residual.ensures.1 in
    rw (p.1, p.2) (record { law = λ case f. refused_by_span case.setting case.history c.args.span c.args.wanted c.args.places c.in_err-days.field-0.0 (c.in_err-days.ensures.law _ case f) })

pub returns-in_err-judge_loads-clause-law : goal.returns-in_err-judge_loads-clause-law
returns-in_err-judge_loads-clause-law g c =
    let p = err_from_is_err_and c.from_residual-in_err-judge_loads.result c.from_residual-in_err-judge_loads.ensures.1 in
    rw (p.1, p.2) (record {
      law = λ case f.
          let span = c.in_ok-days.ensures.law _ case f in
          refused_by_load case.setting case.history c.args.span c.args.wanted c.args.places c.in_ok-days.days span.0 span.1 c.in_err-judge_loads.field-0.0
          (c.in_err-judge_loads.ensures.law case f (omega (arith, span.1.first, span.1.count, span.1.within)));
    })

pub returns-then-places-wanted-clause-law : goal.returns-then-places-wanted-clause-law
returns-then-places-wanted-clause-law g c = record {
  law = λ case f.
      let span = c.in_ok-days.ensures.law _ case f in
      let loads = c.in_ok-judge_loads.ensures.law case f (omega (arith, span.1.first, span.1.count, span.1.within)) in
      (by_list case.setting case.history c.args.span c.args.wanted c.args.places c.in_ok-days.days span.0 span.1 _ (lt-ltb c.args.places c.args.wanted c.if-places-wanted.true) loads.0, refl);
}

pub returns-clause-law : goal.returns-clause-law
returns-clause-law g c = record {
  law = λ case f.
      let span = c.in_ok-days.ensures.law _ case f in
      let loads = c.in_ok-judge_loads.ensures.law case f (omega (arith, span.1.first, span.1.count, span.1.within)) in (
        by_list case.setting case.history c.args.span c.args.wanted c.args.places c.in_ok-days.days span.0 span.1 _ (le-ltb c.args.places c.args.wanted c.if-places-wanted.false) loads.0,
        (span.1, all_loaded case.setting case.history c.args.span c.args.wanted c.args.places c.in_ok-days.days span.0 span.1 loads.0),
      );
}
