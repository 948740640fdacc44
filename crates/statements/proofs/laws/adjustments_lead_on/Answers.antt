use Rattle.std.proofs.Common.{◌+ℤ◌, drop, sym, ap, ◌∙◌}
use Rattle.statements.specs.Lists.{adjustment_at, shown_at}
use Rattle.statements.proofs.Adjustments.{add_up, in_first_row, in_next_row, leads_on, past_both}
use Rattle.statements.proofs.laws.adjustments_lead_on.Goals as goal

pub returns : goal.returns
returns c = record {
  first_places = λ old new before place below. in_first_row (adjustment_at old new) (shown_at new) (drop 34 before) place below;
  next_places = λ old new before place below. in_next_row (adjustment_at old new) (shown_at new) (drop 34 before) place below;
  rest = λ old new before. past_both (adjustment_at old new) (shown_at new) (drop 34 before);
  leads_on = λ old new before place below.
      ap (λ x. shown_at old place +ℤ x) (in_first_row (adjustment_at old new) (shown_at new) (drop 34 before) place below)
      ∙ leads_on (shown_at old place) (shown_at new place)
      ∙ sym (in_next_row (adjustment_at old new) (shown_at new) (drop 34 before) place below);
  add_up = add_up;
}
