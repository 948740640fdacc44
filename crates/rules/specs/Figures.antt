-- The daily figures: what the rules make of a history. All energies are in megajoules.
use Rattle.std.specs.Prelude.{ℕ, ◌+◌, ◌-◌, Bool, false, if◌then◌else◌, not, ◌&&◌, List, map, is_some, Some, None, sum, count_by, Option, ◌==◌, nat_le, nat_lt, slice_index}
use Rattle.std.specs.List.{range_with_len}
use Rattle.std.specs.Option.{option_map, unwrap_or}
use Rattle.allocation.specs.Loads as loads
use Rattle.allocation.specs.Loads.{meters}
use Rattle.allocation.specs.Sharing.{shares}
use Rattle.rules.specs.History.{History, Setting, covered_days, covering_reading, degree_day_count, enrolment_of, gate_of, interval_energy}
use Rattle.rules.specs.declared.entry.Enrolment.{Enrolment}
use Rattle.rules.specs.declared.entry.GateDay.{GateDay}
use Rattle.rules.specs.declared.entry.Reading.{Reading}

-- Loads.

-- the sum of what the interval meters burn on a day
abbrev pub interval_total : History → (day : ℕ) → ℕ
interval_total h d = sum (map (λ m. interval_energy h m d) (range_with_len 1 meters))

-- the net system load of a day with these gate energies
abbrev pub load_from_gate : Setting → History → (day : ℕ) → GateDay → ℕ
load_from_gate s h d gate =
    loads.net_load gate.energy_in gate.energy_out (loads.adjusted (interval_total h d) s.unaccounted)

-- the load of a day; a day without a gate entry has none
abbrev pub load : Setting → History → (day : ℕ) → Option ℕ
load s h d = option_map (load_from_gate s h d) (gate_of h d)

-- the weight of a day
abbrev pub weight_on : Setting → History → (day : ℕ) → ℕ
weight_on s h d = loads.weight (unwrap_or (load s h d) 0)

-- Supplied figures.

-- the weights of the days that a reading covers, in their order
abbrev pub covered_weights : Setting → History → Reading → List ℕ
covered_weights s h r = map (weight_on s h) (covered_days r)

-- a reading's share of a day that it covers
abbrev pub share_on : Setting → History → (day : ℕ) → Reading → ℕ
share_on s h d r = slice_index (shares r.energy (covered_weights s h r)) (d - r.start)

-- the supplied figure of a point and day: the share of the last reading that covers it
abbrev pub supplied_figure : Setting → History → (point day : ℕ) → Option ℕ
supplied_figure s h p d = option_map (share_on s h d) (covering_reading h p d)

-- Estimates.

-- an enrolment starts on a day or before it
abbrev pub has_begun : Option Enrolment → (day : ℕ) → Bool
has_begun None d = false
has_begun (Some e) d = nat_le e.start d

-- a point is active, so that it has figures: it is enrolled, and the day is its start day or later
abbrev pub is_active : History → (point day : ℕ) → Bool
is_active h p d = has_begun (enrolment_of h p) d

-- a point is estimated: it is active, and no reading covers the day
abbrev pub is_estimated : History → (point day : ℕ) → Bool
is_estimated h p d = is_active h p d && not (is_some (covering_reading h p d))

-- the estimate of a point and day under a degree-day count, or before any, at the opening
abbrev pub estimate_under : Setting → (count : Option ℕ) → (point day : ℕ) → Option ℕ
estimate_under s None p d = s.opening p (d + 1)
estimate_under s (Some count) p d = s.weather count p (d + 1)

-- the latest estimate of a point and day: under the day's last count
abbrev pub estimate : Setting → History → (point day : ℕ) → Option ℕ
estimate s h p d = estimate_under s (degree_day_count h d) p d

-- the estimate of an estimated point, none counting 0; of any other point 0
abbrev pub counted_estimate : Setting → History → (point day : ℕ) → ℕ
counted_estimate s h p d = if is_estimated h p d then unwrap_or (estimate s h p d) 0 else 0

-- The figures of a day.

-- the points of a book in number order
abbrev pub points_of : Setting → List ℕ
points_of s = range_with_len 1 s.points

-- what is supplied to all points on a day
abbrev pub supplied_sum : Setting → History → (day : ℕ) → ℕ
supplied_sum s h d = sum (map (λ p. unwrap_or (supplied_figure s h p d) 0) (points_of s))

-- the counted estimates of a day's points in number order
abbrev pub estimates : Setting → History → (day : ℕ) → List ℕ
estimates s h d = map (λ p. counted_estimate s h p d) (points_of s)

-- what the counted estimates of a day come to
abbrev pub estimates_sum : Setting → History → (day : ℕ) → ℕ
estimates_sum s h d = sum (estimates s h d)

-- estimates need scaling: the day has a load that they and what is supplied together exceed, and some are above 0
abbrev pub needs_scaling : (supplied estimated : ℕ) → (load : Option ℕ) → Bool
needs_scaling supplied estimated None = false
needs_scaling supplied estimated (Some n) = nat_lt n (supplied + estimated) && nat_lt 0 estimated

-- the generated figures of a day's points in number order: the estimates, or what the load leaves shared over them
abbrev pub generated_figures : Setting → History → (day : ℕ) → List ℕ
generated_figures s h d =
    if needs_scaling (supplied_sum s h d) (estimates_sum s h d) (load s h d)
    then shares (unwrap_or (load s h d) 0 - supplied_sum s h d) (estimates s h d)
    else estimates s h d

-- the figure of a point and day: supplied where a reading covers it, else generated
abbrev pub figure : Setting → History → (point day : ℕ) → ℕ
figure s h p d = unwrap_or (supplied_figure s h p d) (slice_index (generated_figures s h d) (p - 1))

-- Questions about a day.

-- what all points of a day come to
abbrev pub figures_sum : Setting → History → (day : ℕ) → ℕ
figures_sum s h d = sum (map (λ p. figure s h p d) (points_of s))

-- the generated sum of a day, as scaled
abbrev pub generated_sum : Setting → History → (day : ℕ) → ℕ
generated_sum s h d = sum (generated_figures s h d)

-- what a load leaves beside all figures, 0 where that is negative
abbrev pub remainder : Setting → History → (day load : ℕ) → ℕ
remainder s h d n = n - figures_sum s h d

-- what supplied energy has beyond a load, 0 where that is negative
abbrev pub excess : Setting → History → (day load : ℕ) → ℕ
excess s h d n = supplied_sum s h d - n

-- how many estimated points of a day have no estimate
abbrev pub missing_count : Setting → History → (day : ℕ) → ℕ
missing_count s h d = count_by (λ p. is_estimated h p d && not (is_some (estimate s h p d))) (points_of s)

-- an enrolled point belongs to a retailer
abbrev pub belongs_to : Option Enrolment → (retailer : ℕ) → Bool
belongs_to None k = false
belongs_to (Some e) k = e.retailer == k

-- a retailer's day sum: what its points' figures come to
abbrev pub retailer_sum : Setting → History → (retailer day : ℕ) → ℕ
retailer_sum s h k d = sum (map (λ p. if belongs_to (enrolment_of h p) k then figure s h p d else 0) (points_of s))
