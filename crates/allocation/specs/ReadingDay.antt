-- A day that a reading covers, as it takes its share.
use Rattle.std.specs.Prelude.{ℕ}
use Rattle.allocation.specs.declared.reading_day.ReadingDay.{ReadingDay}

-- the day once it has taken a share of the metered energy
abbrev pub with_share : ReadingDay → ℕ → ReadingDay
with_share day share = record { weight = day.weight; share = share; within_largest = day.within_largest }
