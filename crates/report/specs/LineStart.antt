-- The start of a line.
use Rattle.std.specs.Prelude.{ℕ, List, take}

-- how many bytes of it tell what a line says: one more than a line has, so that a longer one is
-- seen to be too long
abbrev pub line_start_size : ℕ
line_start_size = 47

-- the first bytes of a line
abbrev pub line_start : List ℕ → List ℕ
line_start line = take line_start_size line
