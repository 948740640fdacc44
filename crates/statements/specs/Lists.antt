-- What the stages write into a list.
use Rattle.std.specs.Prelude.{ℕ, ℤ, pos, ◌-ℤ◌, List, ◌++◌, map, drop}
use Rattle.std.specs.List.{range_with_len}
use Rattle.statements.specs.Limits.{later_places, sum_count}
use Rattle.statements.specs.Sums.{sum_at}
use Rattle.statements.specs.declared.sums.Sums.{Sums}

-- as many numbers as a statement has sums, f giving each by its place
unfoldable pub listed : (ℕ → ℤ) → List ℤ
listed f = map f (range_with_len 0 sum_count)

-- the sum at a place
abbrev pub shown_at : Sums → ℕ → ℤ
shown_at x place = pos (sum_at x place)

-- the adjustment at a place: the new sum less the old, which may be negative
abbrev pub adjustment_at : Sums → Sums → ℕ → ℤ
adjustment_at old new place = shown_at new place -ℤ shown_at old place

-- a list after the first stage: the sums, and then what it held
abbrev pub first_list : Sums → List ℤ → List ℤ
first_list x before = listed (shown_at x) ++ drop sum_count before

-- a list after a later stage: the adjustments, the sums, and then what it held
abbrev pub later_list : Sums → Sums → List ℤ → List ℤ
later_list old new before = listed (adjustment_at old new) ++ (listed (shown_at new) ++ drop later_places before)
