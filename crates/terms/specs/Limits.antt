-- The limits of an area, of its readings and of its estimates.
use Rattle.std.specs.Prelude.{ℕ}

-- the retailers of an area, numbered from 1
abbrev pub retailers : ℕ
retailers = 16

-- the largest metered energy of a reading, in megajoules
abbrev pub largest_energy : ℕ
largest_energy = 10000000

-- the greatest figure of a point on a day that is estimated, in megajoules
abbrev pub greatest_figure : ℕ
greatest_figure = 1000000
