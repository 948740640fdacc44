-- Numbers in the words of a command line.
use Rattle.std.specs.Prelude.{◌≡◌, ℕ, ◌+◌, ◌-◌, ◌*◌, ◌<◌, ◌≤◌, List, length, Ok, Err, fold, Result}
use Rattle.std.specs.Char.{IsAsciiDigit}
use Rattle.std.specs.List.{AllByRecursion}
use Rattle.apportion.specs.declared.words.WordFault.{WordFault}
use Rattle.apportion.specs.declared.words.WordFault.TheVariants.{NotANumber, BeyondLimit}

-- one decimal digit or more, and nothing else
abbrev pub IsNumeral : List ℕ → Type 0
IsNumeral word = (0 < length word) × AllByRecursion IsAsciiDigit word

-- the number that decimal digits write
abbrev pub value : List ℕ → ℕ
value word = fold (λ n c. 10 * n + (c - 48)) 0 word

-- the number that a word writes, at most `most`; else why there is none
abbrev pub ReadsNumber : List ℕ → ℕ → Result ℕ WordFault → Type 0
ReadsNumber word most (Ok n) = IsNumeral word × (n ≡ value word) × (n ≤ most)
ReadsNumber word most (Err NotANumber) = IsNumeral word → ⊥
ReadsNumber word most (Err BeyondLimit) = IsNumeral word × (most < value word)
