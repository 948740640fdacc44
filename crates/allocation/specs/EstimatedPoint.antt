-- A point that is estimated on a day, as it is scaled.
use Rattle.std.specs.Prelude.{ℕ}
use Rattle.allocation.specs.declared.estimated_point.EstimatedPoint.{EstimatedPoint}

-- the point once it is scaled to a figure
abbrev pub with_figure : EstimatedPoint → ℕ → EstimatedPoint
with_figure point figure = record { estimate = point.estimate; figure = figure; within_largest = point.within_largest }
