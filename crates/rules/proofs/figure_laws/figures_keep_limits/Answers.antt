use Rattle.rules.proofs.Bounds.{figure_bounded, held_within, load_bounded, reading_shareable, share_bounded, share_most, sum_bounded, supplied_bounded, supplied_sum_bounded, weights_positive}
use Rattle.rules.proofs.figure_laws.figures_keep_limits.Goals as goal

pub returns : goal.returns
returns c = record {
  share_most = share_most;
  sum_bounded = sum_bounded;
  weights_positive = weights_positive;
  held_within = held_within;
  share_bounded = share_bounded;
  supplied_bounded = supplied_bounded;
  supplied_sum_bounded = supplied_sum_bounded;
  figure_bounded = figure_bounded;
  load_bounded = load_bounded;
  reading_shareable = reading_shareable;
}
