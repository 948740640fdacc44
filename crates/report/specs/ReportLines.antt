-- The text of each line of a report, without its line feed.
use Rattle.std.specs.Prelude.{ℕ, List, [], ◌∷◌, ◌++◌, codes, unwrap_or}
use Rattle.std.specs.List.{flat_map}
use Rattle.line_format.specs.Columns.{number_columns}
use Rattle.line_format.specs.declared.fault.LineFault.{LineFault}
use Rattle.terms.specs.Refusal.{number_of, layer_number, date_named}
use Rattle.sheet.specs.declared.account.Account.{Account}

-- numbers one after another, each at the right of ten columns
abbrev pub columns_of_numbers : List ℕ → List ℕ
columns_of_numbers ns = flat_map number_columns ns

-- a refusal: the number of its line, its layer, its own number, the column at fault, and the date
-- of the day that it names, or 0
unfoldable pub fail_text : ℕ → ℕ → ℕ → ℕ → ℕ → List ℕ
fail_text line layer number column date =
    codes "FAIL" ++ columns_of_numbers (line ∷ layer ∷ number ∷ column ∷ date ∷ [])

-- the same of a fault
abbrev pub fault_text : LineFault → List ℕ
fault_text f =
    fail_text f.line (layer_number f.layer) (number_of f.refusal) f.column
    (unwrap_or (date_named f.refusal) 0)

-- a day with a load: its date and its account
unfoldable pub day_text : ℕ → Account → List ℕ
day_text date d =
    codes "DAY " ++ columns_of_numbers
    (date ∷ d.load ∷ d.supplied ∷ d.generated ∷ d.remainder ∷ d.excess ∷ d.missing ∷ [])
