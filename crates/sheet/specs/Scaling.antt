-- The estimated points of a day, the figures that they are scaled to, and what is noted of the day then.
use Rattle.std.specs.Prelude.{ℕ, ◌-◌, if◌then◌else◌, List, map, sum, Option, nat_lt}
use Rattle.std.specs.Option.{unwrap_or}
use Rattle.allocation.specs.Sharing.{shares}
use Rattle.allocation.specs.declared.estimated_point.EstimatedPoint.{EstimatedPoint}
use Rattle.sheet.specs.declared.sheet.DayNote.TheVariants.{EstimatesShown, NothingEstimated, NothingKnown, NothingLeft}
use Rattle.sheet.specs.declared.sheet.DayNote.{DayNote}
use Rattle.rules.specs.Figures.{needs_scaling}

-- the estimates of some points, and their figures
abbrev pub estimates_of_points : List EstimatedPoint → List ℕ
estimates_of_points points = map (λ point. point.estimate) points

abbrev pub figures_of_points : List EstimatedPoint → List ℕ
figures_of_points points = map (λ point. point.figure) points

-- estimates as they are, or the shares over them of what a load leaves beside supplied energy where both
-- together exceed it
abbrev pub scaled_estimates : Option ℕ → ℕ → List ℕ → List ℕ
scaled_estimates load supplied estimates =
    if needs_scaling supplied (sum estimates) load
    then shares (unwrap_or load 0 - supplied) estimates
    else estimates

-- what is noted of a day with this load, this supplied sum and these estimates, once it is settled
abbrev pub note_of : Option ℕ → ℕ → List ℕ → DayNote
note_of load supplied estimates =
    if needs_scaling supplied (sum estimates) load
    then (if nat_lt supplied (unwrap_or load 0) then NothingKnown else NothingLeft)
    else (if nat_lt 0 (sum estimates) then EstimatesShown else NothingEstimated)
