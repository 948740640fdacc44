-- The start of a line says what the line says. Assumes nothing.
use Rattle.std.proofs.Common.{◌≡◌, ℕ, suc, ◌+◌, ◌-◌, ◌<◌, ◌≤◌, min, Bool, true, false, cond, T, eqb, List, [], ◌∷◌, ◌++◌, length, take, sym, refl, ap, ◌∙◌, subst, ⊎_elim, arith}
use Rattle.std.proofs.lemmas.Bool.Decides.{nat_tests}
use Rattle.std.proofs.lemmas.List.{length_push, length-take, length-take-le, take_all, take-take, take-append-le}
use Rattle.std.proofs.lemmas.Bool.{and_parts, and_left, both_ways, cases_lt, eqb-true, ne_eqb}
use Rattle.line_format.proofs.OneWriting.{written_whole}
use Rattle.line_format.specs.declared.record.Record.{Record}
use Rattle.report.specs.LineStart.{line_start}
use Rattle.line_format.specs.Line.{IsAtFault, wrong_length, unknown_tag, wrong_part, is_line, ends_with_line_feed, column_past_end}
use Rattle.line_format.specs.Record.{record_fits, record_bytes}

-- a line of 47 bytes or fewer is its start
line_start_whole : (line : List ℕ) → length line ≤ 47 → line_start line ≡ line
line_start_whole line h = take_all 47 line h

-- the start of a start with more behind it
pub line_start_more : (xs ys : List ℕ) → line_start (line_start xs ++ ys) ≡ line_start (xs ++ ys)
line_start_more xs ys =
    ⊎_elim
    (λ long.
    let all : length (take 47 xs) ≡ 47 = length-take-le 47 xs (omega arith) in
    take-append-le 47 (take 47 xs) ys (omega arith) ∙ take-take 47 47 xs (omega arith) ∙ sym (take-append-le 47 xs ys (omega arith)))
    (λ short. ap (λ zs. line_start (zs ++ ys)) (line_start_whole xs short))
    (cases_lt 47 (length xs))

-- only a line with no byte has a start with none
pub line_start_empty : (line : List ℕ) → eqb (length (line_start line)) 0 ≡ eqb (length line) 0
line_start_empty [] = refl
line_start_empty (b ∷ bs) = ne_eqb (suc (length (take 46 bs))) 0 (λ e. omega arith) ∙ sym (ne_eqb (suc (length bs)) 0 (λ e. omega arith))

-- a longer line is no whole one, and at fault at column 46
not_whole : (bytes : List ℕ) → 46 < length bytes → is_line bytes ≡ false
not_whole bytes h = and_left (eqb (length bytes) 46) (ends_with_line_feed bytes) (ne_eqb (length bytes) 46 (λ e. omega arith))

past_long : (f : Bool) (n : ℕ) → 46 < n → min (n - cond f 1 0) 45 + 1 ≡ 46
past_long true n h = omega arith
past_long false n h = omega arith

past_end_long : (bytes : List ℕ) → 46 < length bytes → column_past_end bytes ≡ 46
past_end_long bytes h = past_long (ends_with_line_feed bytes) (length bytes) h

fault_long : (line : List ℕ) (c : ℕ) → 47 < length line → IsAtFault (line_start line) c → IsAtFault line c
fault_long line c h (wrong_length w e) =
    let all : length (take 47 line) ≡ 47 = length-take-le 47 line (omega arith) in
    wrong_length (not_whole line (omega arith)) (e ∙ past_end_long (line_start line) (omega arith) ∙ sym (past_end_long line (omega arith)))
fault_long line c h (unknown_tag w n e) =
    let all : length (take 47 line) ≡ 47 = length-take-le 47 line (omega arith) in
    absurd (both_ways (is_line (line_start line)) (not_whole (line_start line) (omega arith)) w)
fault_long line c h (wrong_part t w tag l) =
    let all : length (take 47 line) ≡ 47 = length-take-le 47 line (omega arith) in
    absurd (both_ways (is_line (line_start line)) (not_whole (line_start line) (omega arith)) w)

-- the column at fault in the start is that of the line
pub fault_of_start : (line : List ℕ) (c : ℕ) → IsAtFault (line_start line) c → IsAtFault line c
fault_of_start line c at_fault =
    ⊎_elim
    (λ long. fault_long line c long at_fault)
    (λ short. subst (λ bs. IsAtFault bs c) (line_start_whole line short) at_fault)
    (cases_lt 47 (length line))

-- where the start is the writing of a record, so is the line
pub written_by_start : (line : List ℕ) (x : Record) → T (record_fits x) → line_start line ≡ record_bytes x → line ≡ record_bytes x
written_by_start line x fits e =
    let parts = and_parts (eqb (length (record_bytes x)) 46) (ends_with_line_feed (record_bytes x)) (written_whole x fits) in
    let long : length (record_bytes x) ≡ 46 = eqb-true _ _ parts.0 in
    let same : length (take 47 line) ≡ 46 = ap length e ∙ long in
    let counted = length-take 47 line in
    sym (line_start_whole line (omega arith)) ∙ e

-- one more byte where there is room
pub one_more : (start : List ℕ) (byte : ℕ) (full : Bool) → full ≡ eqb (length start) 47 → length start ≤ 47 → full ≡ false
    → start ++ byte ∷ [] ≡ line_start (start ++ byte ∷ [])
one_more start byte full is within not_full =
    let room : length start < 47 = grind (arith, nat_tests) in
    let more = length_push start byte in
    sym (take_all 47 _ (omega arith))

-- no more where there is none
pub none_more : (start more : List ℕ) (full : Bool) → full ≡ eqb (length start) 47 → full ≡ true → start ≡ line_start (start ++ more)
none_more start more full is holds =
    let all : length start ≡ 47 = grind (arith, nat_tests) in
    sym (take-append-le 47 start more (omega arith) ∙ take_all 47 start (omega arith))
