use Rattle.std.proofs.Common.{◌≡◌, ℕ, ◌+◌, ◌<◌, cond, Some, None, Ok, Err, Option, sym, ap, ◌∙◌, true, is_some, arith}
use borrow.Author.Count.{below_more}
use Rattle.std.proofs.lemmas.Result.{err_from_is_err_and}
use Rattle.rules.specs.Figures.{load}
use Rattle.statements.proofs.DayAnswers.{day_given}
use Rattle.statements.proofs.DayLoads.{first_unloaded, none_unloaded}
use Rattle.statements.proofs.draw.judge_loads.Goals as goal
use Rattle.rules.specs.Calls.{date_of_day}

-- 14 where there is a day without a load
abbrev refused_for : Option ℕ → Option ℕ
refused_for o = cond (is_some o) (Some 14) None

pub loop-place-init : goal.loop-place-init
loop-place-init g c = λ case f within k none. absurd (omega arith)

pub loop-place-preserved : goal.loop-place-preserved
loop-place-preserved g c = λ case f within.
    let days = c.args.days in
    let place = c.loop-place.place in
    let inside : c.args.days.first + c.loop-place.place < case.setting.days = omega (arith, c.loop-place-test.true) in
    let given = day_given case (days.first + place) inside (Ok c.in_ok-day_account.field-0) (c.in_ok-day_account.ensures.law case f) in
    below_more (λ k. is_some (load case.setting case.history (days.first + k)) ≡ true) place (c.loop-place.invariant case f within) given.0

pub returns-in_err-day_account : goal.returns-in_err-day_account
returns-in_err-day_account g c =
    let p = err_from_is_err_and c.from_residual.result c.from_residual.ensures.1 in
    rw (p.1, p.2)
    (record {
      law = λ case f within.
          let days = c.args.days in
          let place = c.loop-place.place in
          let inside : c.args.days.first + c.loop-place.place < case.setting.days = omega (arith, c.loop-place-test.true) in
          let given = day_given case (days.first + place) inside (Err c.in_err-day_account.field-0.0) (c.in_err-day_account.ensures.law case f) in
          let found = first_unloaded case.setting case.history days.first days.count place c.loop-place-test.true (c.loop-place.invariant case f within) given.0 in (
            ap refused_for found ∙ ap Some (sym given.1),
            given.2 ∙ ap (date_of_day case.setting) (sym found),
          );
    })

pub returns : goal.returns
returns g c = record {
  law = λ case f within.
      let days = c.args.days in
      let none = none_unloaded case.setting case.history days.first days.count (λ k below. c.loop-place.invariant case f within k (omega (arith, c.loop-place-test.false))) in
      (ap refused_for none, tt);
}
