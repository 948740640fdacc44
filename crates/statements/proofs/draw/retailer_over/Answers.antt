use Rattle.std.proofs.Common.{◌+◌, ◌<◌, Ok, ap, ◌∙◌, arith, rules}
use Rattle.rules.specs.Figures.{retailer_sum}
use Rattle.book.specs.Days.{TellsSum}
use Rattle.statements.specs.Spans.{span_day_count}
use Rattle.statements.proofs.DayAnswers.{retailer_given}
use Rattle.statements.proofs.SpanSums.{whole}
use Rattle.statements.proofs.SumLimits.{retailer_counts}
use Rattle.statements.proofs.draw.retailer_over.Goals as goal
use Rattle.rules.specs.Calls.{day_of_date}

pub returns-clause-law : goal.returns-clause-law
returns-clause-law c = record {
  law = λ m case f span its.
      let days = c.args.days in
      let retailer = c.args.retailer in
      let sums = retailer_sum case.setting case.history retailer in
      let first = day_of_date case.setting span.first in
      c.sum_over.ensures.law sums
      (λ k r below asked.
      let within : c.args.days.first + k < case.setting.days = omega (arith, its.first, its.count, its.within) in
      let given : TellsSum retailer (days.first + k) r c.args.book.now = search rules in
      retailer_given case (days.first + k) within retailer r (given.law m case f))
      ∙ ap Ok (whole sums days.first first days.count (span_day_count span) its.first its.count (retailer_counts f retailer first (span_day_count span) its.within));
}
