use Rattle.std.proofs.Common.{◌≡◌, Err, Result, rules, ◌∙◌}
use Rattle.std.specs.Prelude.{IsErr}
use Rattle.degreedays.specs.declared.reckoning.Reckoning.{Reckoning}
use Rattle.degreedays.specs.declared.word.Word.{Word}
use Rattle.degreedays.specs.declared.word.Word.TheVariants.{Sunshine}
use Rattle.degreedays.proofs.Faults.{sunshine_at_fault}
use Rattle.degreedays.proofs.reckoning.reckon.Goals as goal

pub returns-in_err-terms : goal.returns-in_err-terms
returns-in_err-terms c =
    let refused : IsErr c.terms.result = search rules in
    let named : ◌≡◌ {A = Result Reckoning Word} c.from_residual-in_err-terms.result (Err Sunshine) = search rules in
    named
    ∙ sunshine_at_fault _ _ c.args.date c.args.observations.now c.in_ok-day_of_year.day_of_year c.terms.result
    c.in_ok-day_of_year.ensures.answer c.in_ok-day_of_year.ensures.within c.in_ok-first_beyond.ensures c.terms.ensures.answer refused
