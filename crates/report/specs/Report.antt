-- The report of an input: a line for each refusal as it occurs, then one for each day with a load.
use Rattle.std.specs.Prelude.{◌≡◌, ℕ, ◌+◌, List, [], ◌∷◌, ◌++◌, Some, None, Option}
use Rattle.std.specs.List.{flat_map, range_with_len}
use Rattle.std.specs.Option.{option_map}
use Rattle.report.specs.IntakeHistory.{IntakeHistory, day_count_of, initial_history, reported_day}
use Rattle.report.specs.LineContent.{HasContent, LineContent, ReportedRefusal, history_after_line, line_refusal, reported_refusal}
use Rattle.report.specs.LineCutting.{input_lines}
use Rattle.report.specs.ReportLines.{day_text, fail_text}
use Rattle.report.specs.declared.day_line.DayLine.{DayLine}

-- a text with its line feed
abbrev pub line_of_text : List ℕ → List ℕ
line_of_text text = text ++ 10 ∷ []

-- the line of a refusal, if there is one
abbrev pub fail_line : Option ReportedRefusal → List ℕ
fail_line None = []
fail_line (Some f) = line_of_text (fail_text f.line f.layer f.number f.column f.date)

-- the lines of the refusals of these contents, after k other lines that amount to a history
abbrev pub fail_lines : ℕ → IntakeHistory → List LineContent → List ℕ
fail_lines k t [] = []
fail_lines k t (x ∷ xs) =
    fail_line (option_map (reported_refusal k) (line_refusal t x))
    ++ fail_lines (k + 1) (history_after_line t x) xs

-- the history after all of them
abbrev pub history_after_lines : IntakeHistory → List LineContent → IntakeHistory
history_after_lines t [] = t
history_after_lines t (x ∷ xs) = history_after_lines (history_after_line t x) xs

-- the line of a day, if it has a load
abbrev pub day_line : Option DayLine → List ℕ
day_line None = []
day_line (Some d) = line_of_text (day_text d.date d.figures)

-- the lines of the days with a load, in the order of their dates
abbrev pub day_lines : IntakeHistory → List ℕ
day_lines t = flat_map (λ day. day_line (reported_day t day)) (range_with_len 0 (day_count_of t))

-- each line has the content beside it
pub data HaveContents : List (List ℕ) → List LineContent → Type 0 where
  none : HaveContents [] []
  next : {l : List ℕ} {ls : List (List ℕ)} {x : LineContent} {xs : List LineContent}
      → HasContent l x → HaveContents ls xs → HaveContents (l ∷ ls) (x ∷ xs)

-- a text is the report of an input: the refusals of its lines, one after another, and then the days
-- that its accepted lines make
pub record IsReportOf (input text : List ℕ) : Type 0 where
  pub contents : List LineContent
  pub have_contents : HaveContents (input_lines input) contents
  pub text_is :
      text ≡ fail_lines 0 initial_history contents
      ++ day_lines (history_after_lines initial_history contents)

-- what holds of every report
pub record OneReport : Type 0 where
  -- a line has one content
  pub line_has_one_content : (line : List ℕ) (x y : LineContent)
      → HasContent line x → HasContent line y → x ≡ y
  -- and an input has one report, whatever the pieces in which it came
  pub input_has_one_report : (input x y : List ℕ) → IsReportOf input x → IsReportOf input y → x ≡ y
