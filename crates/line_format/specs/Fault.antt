-- Faults: where a line is refused, and on which line.
use Rattle.std.specs.Prelude.{ℕ, Some, None, Ok, Err, Option, Result}
use Rattle.terms.specs.Refusal.{number_of, layer_of}
use Rattle.terms.specs.declared.refusal.Refusal.{Refusal}
use Rattle.line_format.specs.declared.fault.Fault.{Fault}
use Rattle.line_format.specs.declared.fault.LineFault.{LineFault}

-- what stands at a column, or why that column is at fault
abbrev pub at_column : {X : Type 0} → ℕ → Result X Refusal → Result X Fault
at_column column (Ok x) = Ok x
at_column column (Err e) = Err (record { refusal = e; column = column })

-- the number and the column of a refusal
abbrev pub number_and_column : Result (Unit {0}) Fault → Option (ℕ × ℕ)
number_and_column (Ok _) = None
number_and_column (Err f) = Some (number_of f.refusal, f.column)

-- line numbers stop at this one
abbrev pub last_line_number : ℕ
last_line_number = 9999999999

-- a fault with its line and its layer
abbrev pub line_fault : ℕ → Fault → LineFault
line_fault n f =
    record { line = n; layer = layer_of f.refusal; refusal = f.refusal; column = f.column }

-- what is answered to the line of a number
abbrev pub on_line : {X : Type 0} → ℕ → Result X Fault → Result X LineFault
on_line n (Ok x) = Ok x
on_line n (Err f) = Err (line_fault n f)
