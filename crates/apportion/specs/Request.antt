-- The words of a request: an energy, and then the loads.
use Rattle.std.specs.Prelude.{◌≡◌, ℕ, ◌+◌, ◌<◌, ◌≤◌, if◌then◌else◌, List, [], map, length, drop, Ok, Err}
use Rattle.std.specs.Prelude.{vec_items, string_bytes, Result, String, ◌==◌, slice_index_or}
use Rattle.std.specs.declared.alloc.Global.{Global}
use Rattle.terms.specs.Limits.{largest_energy}
use Rattle.estimators.specs.Limits.{last_day}
use Rattle.apportion.specs.Limits.{largest_load}
use Rattle.apportion.specs.Numerals.{IsNumeral, ReadsNumber, value}
use Rattle.apportion.specs.declared.fault.Fault.{Fault}
use Rattle.apportion.specs.declared.fault.Fault.TheVariants.{TooFewWords, TooManyWords, Word, Refused, Memory}
use Rattle.apportion.specs.declared.request.Request.{Request}

-- the texts of words
abbrev pub texts : List (String Global) → List (List ℕ)
texts words = map string_bytes words

-- the limit of the word at an index, counted from 0: the energy stands first
abbrev pub limit_at : ℕ → ℕ
limit_at index = if index == 0 then largest_energy else largest_load

-- the word at an index writes a number within its limit
abbrev pub WritesNumberAt : List (List ℕ) → ℕ → Type 0
WritesNumberAt ws index =
    IsNumeral (slice_index_or ws index []) × (value (slice_index_or ws index []) ≤ limit_at index)

-- the number that a word at an index writes, or that word's fault
abbrev pub IsNumberAt : List ℕ → ℕ → ℕ → Result ℕ Fault → Type 0
IsNumberAt word index limit (Ok n) = ReadsNumber word limit (Ok n)
IsNumberAt word index limit (Err (Word at why)) = (at ≡ index) × ReadsNumber word limit (Err why)
IsNumberAt word index limit (Err other) = ⊥

-- what reading a request gives: the numbers of words that write them; else the first word at fault and why
abbrev pub IsRequestOf : List (List ℕ) → Result Request Fault → Type 0
IsRequestOf ws (Ok q) =
    ((index : ℕ) → index < length ws → WritesNumberAt ws index)
    × (q.energy ≡ value (slice_index_or ws 0 []))
    × (vec_items q.loads ≡ map value (drop 1 ws))
    × (2 ≤ length ws)
    × (length ws ≤ 1 + last_day)
IsRequestOf ws (Err TooFewWords) = length ws < 2
IsRequestOf ws (Err TooManyWords) = 1 + last_day < length ws
IsRequestOf ws (Err (Word index why)) =
    (index < length ws)
    × ((earlier : ℕ) → earlier < index → WritesNumberAt ws earlier)
    × ReadsNumber (slice_index_or ws index []) (limit_at index) (Err why)
IsRequestOf ws (Err (Refused e)) = ⊥
IsRequestOf ws (Err Memory) = Unit {0}
