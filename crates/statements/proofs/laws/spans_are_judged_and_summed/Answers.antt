use Rattle.statements.proofs.SpanLaws.{accepted_dates, accepted_days, accepted_last_day, draw_by_span}
use Rattle.statements.proofs.SpanSums.{at_most, of_alike, of_none, of_one_more, of_parts}
use Rattle.statements.proofs.laws.spans_are_judged_and_summed.Goals as goal

pub returns : goal.returns
returns c = record {
  dates = accepted_dates;
  days = accepted_days;
  last_day = accepted_last_day;
  draw_by_span = draw_by_span;
  of_none = of_none;
  of_one_more = of_one_more;
  of_parts = of_parts;
  of_alike = of_alike;
  at_most = at_most;
}
