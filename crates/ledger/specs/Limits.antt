-- What a ledger can hold.
use Rattle.std.specs.Prelude.{ℕ, ◌+◌, ◌*◌, Bool, true, ◌&&◌, List, take, Some, None, Option, nat_le, nat_lt}
use Rattle.std.specs.List.{list_all}
use Rattle.calendar.specs.Gregorian.{days_in_all}
use Rattle.estimators.specs.Limits.{last_day, last_point}
use Rattle.rules.specs.declared.entry.GateDay.{GateDay}
use Rattle.allocation.specs.Loads.{largest_gate, largest_unaccounted, largest_interval, meters}
use Rattle.ledger.specs.declared.opening.Opening.{Opening}

-- the days, the points and the share of unaccounted-for gas of a book are within their limits, and
-- the day after its last is a date
abbrev pub opening_within : Opening → Bool
opening_within o =
    nat_le o.days last_day
    && (nat_le o.points last_point
    && (nat_le o.unaccounted largest_unaccounted && nat_lt (o.first + o.days) days_in_all))

-- the gate energies of a day, if it has any, are within their limits
abbrev pub gate_within : Option GateDay → Bool
gate_within None = true
gate_within (Some gate) = nat_le gate.energy_in largest_gate && nat_le gate.energy_out largest_gate

-- an interval energy is within its limit
abbrev pub interval_within : ℕ → Bool
interval_within energy = nat_le energy largest_interval

-- so are all that an interval list has of a book of so many days
abbrev pub all_intervals_within : ℕ → List ℕ → Bool
all_intervals_within days energies = list_all interval_within (take (days * meters) energies)
