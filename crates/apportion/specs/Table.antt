-- The table of an energy spread over the loads of consecutive days.
use Rattle.std.specs.Prelude.{ℕ, ◌+◌, List, map, length, slice_index}
use Rattle.std.specs.List.{range_with_len}
use Rattle.allocation.specs.Loads.{weight}
use Rattle.allocation.specs.Sharing.{running_sum, shares}
use Rattle.allocation.specs.declared.reading_day.ReadingDay.{ReadingDay}
use Rattle.apportion.specs.declared.table.DayLine.{DayLine}

abbrev pub table_line : ℕ → ℕ → ℕ → ℕ → DayLine
table_line load weight running_sum share = record {
  load = load;
  weight = weight;
  running_sum = running_sum;
  share = share;
}

-- the weights of loads
abbrev pub load_weights : List ℕ → List ℕ
load_weights loads = map weight loads

-- day k, counted from 0: its load, its weight, the weights up to it, and its share of the energy
abbrev pub line_at : ℕ → List ℕ → ℕ → DayLine
line_at energy loads k =
    table_line (slice_index loads k) (slice_index (load_weights loads) k) (running_sum (load_weights loads) (k + 1))
    (slice_index (shares energy (load_weights loads)) k)

-- a line for each day
abbrev pub table : ℕ → List ℕ → List DayLine
table energy loads = map (line_at energy loads) (range_with_len 0 (length loads))

-- the weights and the shares of days
abbrev pub weights_of : List ReadingDay → List ℕ
weights_of days = map (λ day. day.weight) days

abbrev pub shares_of : List ReadingDay → List ℕ
shares_of days = map (λ day. day.share) days

-- the line of day k, counted from 0, from its load and from what it weighs and has taken
abbrev pub line_of : List ℕ → List ReadingDay → ℕ → DayLine
line_of loads days k =
    table_line (slice_index loads k) (slice_index (weights_of days) k) (running_sum (weights_of days) (k + 1))
    (slice_index (shares_of days) k)

-- a line for each day, from its load and from what it weighs and has taken
abbrev pub lines_of : List ℕ → List ReadingDay → List DayLine
lines_of loads days = map (line_of loads days) (range_with_len 0 (length loads))
