use Rattle.std.proofs.Common.{◌≡◌, true, sym, ap, ◌∙◌, rules}
use Rattle.std.proofs.lemmas.Result.{err_from_is_err_and}
use Rattle.std.proofs.lemmas.Bool.{and_left, and_right}
use Rattle.terms.specs.Answers.{accepted_since, refused_since}
use Rattle.ledger.proofs.ReadingRefusals.{in_book_of, outside_refused}
use Rattle.ledger.proofs.ledger.Ledger.judge_numbers.Goals as goal
use Rattle.rules.specs.Calls.{is_between, is_energy_within_limit}

pub returns-in_err-start : goal.returns-in_err-start
returns-in_err-start c =
    let p = err_from_is_err_and c.from_residual-in_err-start.result c.from_residual-in_err-start.ensures.1 in
    let start_real = accepted_since _ _ _ _ c.in_ok-start_number.ensures in
    let end_real = accepted_since _ _ _ _ c.in_ok-end_number.ensures in
    let late = refused_since _ _ _ _ c.in_err-start.ensures in
    let limited : is_energy_within_limit c.args.delivery.energy ≡ true = search rules in
    rw (p.1, p.2) record {
      fits = tt;
      law = λ s h f.
          outside_refused s h c.args.delivery _
          (ap (λ n. is_between 1 n c.args.delivery.point) (sym f.points) ∙ sym c.has_point.ensures ∙ c.if-not-has_point.false) limited start_real.0 end_real.0
          (and_left _ _ (in_book_of 0 c.args.delivery.start _ _ f start_real.1 late.0)) late.1;
    }

pub returns-in_err-end : goal.returns-in_err-end
returns-in_err-end c =
    let p = err_from_is_err_and c.from_residual-in_err-end.result c.from_residual-in_err-end.ensures.1 in
    let start_real = accepted_since _ _ _ _ c.in_ok-start_number.ensures in
    let end_real = accepted_since _ _ _ _ c.in_ok-end_number.ensures in
    let late = refused_since _ _ _ _ c.in_err-end.ensures in
    let limited : is_energy_within_limit c.args.delivery.energy ≡ true = search rules in
    rw (p.1, p.2) record {
      fits = tt;
      law = λ s h f.
          outside_refused s h c.args.delivery _
          (ap (λ n. is_between 1 n c.args.delivery.point) (sym f.points) ∙ sym c.has_point.ensures ∙ c.if-not-has_point.false) limited start_real.0 end_real.0
          (and_right _ _ (in_book_of 1 c.args.delivery.end _ _ f end_real.1 late.0)) late.1;
    }
