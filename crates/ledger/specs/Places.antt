-- The places of held readings.
use Rattle.std.specs.Prelude.{◌≡◌, ℕ, ◌<◌, Bool, false, if◌then◌else◌, List, length, Some, None, Option, slice_index_or, slice_set}
use Rattle.rules.specs.Readings.{replaces}
use Rattle.rules.specs.declared.entry.Reading.{Reading}

-- what a closure answers of each reading is what the predicate says of it
abbrev pub IsTestOf : (Reading → Bool → Type 0) → (Reading → Bool) → Type 0
IsTestOf answers passes = (r : Reading) (b : Bool) → answers r b → b ≡ passes r

-- P holds of every predicate of which a closure is the test
abbrev pub EachTestOf : (Reading → Bool → Type 0) → ((Reading → Bool) → Type 0) → Type 0
EachTestOf answers P = (passes : Reading → Bool) → IsTestOf answers passes → P passes

-- a place holds a reading that passes a test
abbrev pub holds_passing : (Reading → Bool) → Option Reading → Bool
holds_passing test None = false
holds_passing test (Some r) = test r

-- a place, freed where a new reading replaces the one in it
abbrev pub freed_place : Reading → Option Reading → Option Reading
freed_place new None = None
freed_place new (Some old) = if replaces new old then None else Some old

-- a reading is put into one place that was free; the others stay
abbrev pub TakesPlace : Reading → List (Option Reading) → List (Option Reading) → Type 0
TakesPlace r old new =
    (k : ℕ) × (k < length old) × (slice_index_or old k None ≡ None)
    × (new ≡ slice_set old k (Some r))
