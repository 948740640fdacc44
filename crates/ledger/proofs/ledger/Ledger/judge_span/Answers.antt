use Rattle.std.proofs.Common.{sym, ◌∙◌}
use Rattle.std.proofs.lemmas.Bool.{leb-false}
use Rattle.ledger.proofs.ReadingRefusals.{no_day_load, no_end, no_place, no_soft, no_start, span_accepted}
use Rattle.ledger.proofs.ledger.Ledger.judge_span.Goals as goal

pub returns-then-not-is_mark : goal.returns-then-not-is_mark
returns-then-not-is_mark c = record { fits = tt; law = λ s h f. no_start f c.args.reading.now (sym c.is_mark.ensures.value ∙ c.if-not-is_mark.true) }

pub returns-then-not-may_end : goal.returns-then-not-may_end
returns-then-not-may_end c = record { fits = tt; law = λ s h f. no_end f c.args.reading.now (sym c.is_mark.ensures.value ∙ c.if-not-is_mark.false) (sym c.may_end.ensures.value ∙ c.if-not-may_end.true) }

pub returns-in-Some : goal.returns-in-Some
returns-in-Some c = record {
  fits = tt;
  law = λ s h f. no_day_load f c.args.reading.now c.in-Some.day c.date_of_day-date.result (sym c.is_mark.ensures.value ∙ c.if-not-is_mark.false) (sym c.may_end.ensures.value ∙ c.if-not-may_end.false) (c.in-Some.ensures.law s h f) c.date_of_day-date.ensures;
}

pub returns-then-is_soft_over_firm : goal.returns-then-is_soft_over_firm
returns-then-is_soft_over_firm c = record { fits = tt; law = λ s h f. no_soft f c.args.reading.now (sym c.is_mark.ensures.value ∙ c.if-not-is_mark.false) (sym c.may_end.ensures.value ∙ c.if-not-may_end.false) (c.in_default.ensures.law s h f) (sym c.is_soft_over_firm.ensures.value ∙ c.if-is_soft_over_firm.true) }

pub returns-then-is_full_beside : goal.returns-then-is_full_beside
returns-then-is_full_beside c = record { fits = tt; law = λ s h f. no_place f c.args.reading.now (sym c.is_mark.ensures.value ∙ c.if-not-is_mark.false) (sym c.may_end.ensures.value ∙ c.if-not-may_end.false) (c.in_default.ensures.law s h f) (sym c.is_soft_over_firm.ensures.value ∙ c.if-is_soft_over_firm.false) (sym c.is_full_beside.ensures ∙ c.if-is_full_beside.true) }

pub returns : goal.returns
returns c = record {
  fits = leb-false _ _ (sym c.is_full_beside.ensures ∙ c.if-is_full_beside.false);
  law = λ s h f. span_accepted f c.args.reading.now (sym c.is_mark.ensures.value ∙ c.if-not-is_mark.false) (sym c.may_end.ensures.value ∙ c.if-not-may_end.false) (c.in_default.ensures.law s h f) (sym c.is_soft_over_firm.ensures.value ∙ c.if-is_soft_over_firm.false) (sym c.is_full_beside.ensures ∙ c.if-is_full_beside.false);
}
