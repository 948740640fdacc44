-- A word's digits and their number, as `parse` reads them. Assumes nothing.
use Rattle.std.proofs.Common.{◌≡◌, ℕ, ◌+◌, ◌-◌, ◌*◌, ◌^◌, ◌≤◌, List, fold, Ok, Err, Result, arith, rules}
use Rattle.std.specs.Char.{IsAsciiDigit}
use Rattle.std.specs.List.{AllByRecursion}
use Rattle.std.specs.Str.Parse.{ParsesUnsigned}
use Rattle.std.proofs.lemmas.Str.Parse.{IsNumeralModel, numerals_by_fold, parse_digits}
use Rattle.apportion.specs.Numerals.{IsNumeral, value}

-- a word of decimal digits, and the number that it writes
own : IsNumeralModel (AllByRecursion IsAsciiDigit) value
own = numerals_by_fold (AllByRecursion IsAsciiDigit) (search rules) (λ n word. fold (λ m c. 10 * m + (c - 48)) n word) (search rules)

-- a numeral parses to its number
pub parsed_is : {E : Type 0} (r : Result ℕ E) (word : List ℕ) (n : ℕ) → r ≡ Ok n → IsNumeral word → ParsesUnsigned 64 10 word r → n ≡ value word
parsed_is r word n is numeral parses = (rw is at (parse_digits own 64 word r parses numeral.1)).1

-- and fails to parse only beyond the numbers of a u64
pub unparsed_is : {E : Type 0} (r : Result ℕ E) (word : List ℕ) (e : E) → r ≡ Err e → IsNumeral word → ParsesUnsigned 64 10 word r → 2 ^ 64 ≤ value word
unparsed_is r word e is numeral fails =
    let beyond = rw is at (parse_digits own 64 word r fails numeral.1) in
    grind (arith, beyond, numeral.0)
