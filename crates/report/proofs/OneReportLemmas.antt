-- A line has one content, and so an input has one report. Assumes nothing.
use Rattle.std.proofs.Common.{◌≡◌, ℕ, List, [], ◌∷◌, ◌++◌, Err, sym, refl, ap, ◌∙◌, subst}
use Rattle.line_format.proofs.OneWriting.{one_column, same_record, written_sound}
use Rattle.line_format.specs.declared.fault.Fault.{Fault}
use Rattle.terms.specs.declared.refusal.Refusal.TheVariants.{MalformedLine}
use Rattle.report.specs.IntakeHistory.{initial_history}
use Rattle.report.specs.LineContent.{HasContent, LineContent, malformed_at, record_is}
use Rattle.report.specs.Report.{HaveContents, IsReportOf, day_lines, fail_lines, history_after_lines, next, none}
use Rattle.line_format.specs.Line.{IsAtFault}

-- malformed at a column
fault_at : ℕ → Fault
fault_at c = record { refusal = MalformedLine; column = c }

pub said_once : (line : List ℕ) (x y : LineContent) → HasContent line x → HasContent line y → x ≡ y
unfolding fault_at
said_once line (record_is a) (record_is b) one two = ap record_is (same_record a b one.0 two.0 (sym one.1 ∙ two.1))
said_once line (record_is a) (malformed_at c) one two = absurd (written_sound a one.0 c (subst (λ (l : List ℕ). IsAtFault l c) one.1 two))
said_once line (malformed_at c) (record_is b) one two = absurd (written_sound b two.0 c (subst (λ (l : List ℕ). IsAtFault l c) two.1 one))
said_once line (malformed_at c) (malformed_at d) one two = ap malformed_at (sym (one_column line (Err (fault_at c)) (refl, one) d two))

pub all_said_once : (lines : List (List ℕ)) (xs ys : List LineContent) → HaveContents lines xs → HaveContents lines ys → xs ≡ ys
all_said_once [] [] [] none none = refl
all_said_once [] [] (y ∷ ys) some other = elim other [ ]
all_said_once [] (x ∷ xs) ys some other = elim some [ ]
all_said_once (l ∷ ls) [] ys some other = elim some [ ]
all_said_once (l ∷ ls) (x ∷ xs) [] some other = elim other [ ]
all_said_once (l ∷ ls) (x ∷ xs) (y ∷ ys) (next one some) (next other others) = λ i. said_once l x y one other i ∷ all_said_once ls xs ys some others i

pub reported_once : (input x y : List ℕ) → IsReportOf input x → IsReportOf input y → x ≡ y
reported_once input x y one other =
    let same = all_said_once _ one.contents other.contents one.have_contents other.have_contents in
    one.text_is ∙ ap (λ (says : List LineContent). fail_lines 0 initial_history says ++ day_lines (history_after_lines initial_history says)) same ∙ sym other.text_is
