use Rattle.sheet.proofs.RowsByPlaces.{from_counting, handed_estimates, handed_figures, handed_shares, handed_weights, place_after, place_apart, place_before, same_drop}
use Rattle.sheet.proofs.place_laws.rows_by_places.Goals as goal

pub returns : goal.returns
returns c = record {
  same_drop = same_drop;
  from_counting = from_counting;
  handed_figures = handed_figures;
  handed_estimates = handed_estimates;
  handed_shares = handed_shares;
  handed_weights = handed_weights;
  place_apart = place_apart;
  place_before = place_before;
  place_after = place_after;
}
