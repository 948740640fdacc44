-- Tables that are numbered from 1, each place with an entry or none.
use Rattle.std.specs.Prelude.{ℕ, ◌-◌, Bool, true, if◌then◌else◌, ◌&&◌, List, None, Option, nat_le}
use Rattle.std.specs.Prelude.{slice_index_or}
use Rattle.std.specs.List.{list_all}
use Rattle.std.specs.Option.{option_map_or}

-- the entry of a number in a table numbered from 1 to last; beyond those numbers there is none
abbrev pub entry_numbered : {X : Type 0} → ℕ → List (Option X) → ℕ → Option X
entry_numbered last table number =
    if nat_le 1 number && nat_le number last then slice_index_or table (number - 1) None else None

-- every entry of a table passes a test
abbrev pub entries_pass : {X : Type 0} → (X → Bool) → List (Option X) → Bool
entries_pass test table = list_all (λ entry. option_map_or test entry true) table
