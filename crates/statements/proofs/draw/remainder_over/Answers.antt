use Rattle.std.proofs.Common.{◌≡◌, ◌+◌, ◌<◌, Ok, ap, ◌∙◌, is_some, true, unwrap_or, arith, rules}
use Rattle.rules.specs.Figures.{load}
use Rattle.estimators.specs.Meaning.{meanings_of}
use Rattle.statements.specs.Draws.{TellsRemainder}
use Rattle.statements.specs.Spans.{span_day_count}
use Rattle.statements.specs.Sums.{remainder_on}
use Rattle.statements.proofs.DayLoads.{each_loaded, some_load}
use Rattle.statements.proofs.SpanSums.{whole}
use Rattle.statements.proofs.SumLimits.{remainder_counts}
use Rattle.statements.proofs.draw.remainder_over.Goals as goal
use Rattle.rules.specs.Calls.{day_of_date}

pub returns-clause-law : goal.returns-clause-law
returns-clause-law g c = record {
  law = λ case f span its loaded.
      let s = case.setting in
      let h = case.history in
      let days = c.args.days in
      c.sum_over.ensures.law (remainder_on s h)
      (λ k r below asked.
      let within : c.args.days.first + k < case.setting.days = omega (arith, its.first, its.count, its.within) in
      let same_day : days.first + k ≡ day_of_date s span.first + k = ap (λ d. d + k) its.first in
      let some : is_some (load s h (days.first + k)) ≡ true =
      ap (λ d. is_some (load s h d)) same_day ∙ each_loaded s h (day_of_date s span.first) (span_day_count span) loaded k (omega (arith, its.count)) in
      let given : TellsRemainder (days.first + k) r c.args.book.now (meanings_of (g.E.Estimator.meaning c.args.estimator.now) (g.E.Weather.under c.args.estimator.now)) = search rules in
      given.law case f (unwrap_or (load s h (days.first + k)) 0) within (some_load (load s h (days.first + k)) some))
      ∙ ap Ok (whole (remainder_on s h) days.first (day_of_date s span.first) days.count (span_day_count span) its.first its.count (remainder_counts f (day_of_date s span.first) (span_day_count span) its.within));
}
