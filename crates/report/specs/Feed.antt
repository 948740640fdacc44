-- A feed after the bytes that came, and what it writes.
use Rattle.std.specs.Prelude.{◌≡◌, ℕ, ◌+◌, ◌<◌, List, [], ◌++◌, length, Option}
use Rattle.std.specs.Io.KnownBytes.{Appends, Consumes, IsAtEnd}
use Rattle.std.specs.Option.{option_map}
use Rattle.report.specs.Intake.{InEveryHistory, IsIntakeOf}
use Rattle.report.specs.IntakeHistory.{IntakeHistory, initial_history, reported_day}
use Rattle.report.specs.LineContent.{HasContent, LineContent, history_after_line, line_refusal, reported_refusal}
use Rattle.report.specs.LineCutting.{ended_lines, unended_line}
use Rattle.report.specs.LineStart.{line_start}
use Rattle.report.specs.Report.{HaveContents, IsReportOf, day_line, day_lines, fail_line, fail_lines, history_after_lines}
use Rattle.report.specs.declared.feed.Feed.{Feed}

-- what a reader has left, or a writer has got, where it is known
abbrev pub Known : Type 0
Known = Option (List ℕ)

-- after these bytes, with this text written: the lines that ended were taken, their refusals are
-- the text, and the start of the line that has no end yet is kept
pub record IsFeedOf (bytes text : List ℕ) (f : Feed) : Type 0 where
  pub contents : List LineContent
  pub have_contents : HaveContents (ended_lines bytes) contents
  pub written : text ≡ fail_lines 0 initial_history contents
  pub intake : IsIntakeOf (length contents) (history_after_lines initial_history contents) f.intake
  pub line : f.line ≡ line_start (unended_line bytes)

-- more bytes were taken, and the text grows by what the writer got
abbrev pub TakesBytes : List ℕ → Feed → Feed → Known → Known → Type 0
TakesBytes more old new before after =
    (bytes text : List ℕ) → IsFeedOf bytes text old
    → (added : List ℕ) × IsFeedOf (bytes ++ more) (text ++ added) new × Appends before after added

-- a line ended that has this start: it was taken, and the writer got its refusal, if it has one
abbrev pub EndsLine : Feed → Feed → Known → Known → Type 0
EndsLine old new before after =
    (line : List ℕ) (k : ℕ) (t : IntakeHistory) → old.line ≡ line_start line → IsIntakeOf k t old.intake
    → (content : LineContent)
    × HasContent line content
    × Appends before after (fail_line (option_map (reported_refusal k) (line_refusal t content)))
    × IsIntakeOf (k + 1) (history_after_line t content) new.intake
    × (new.line ≡ [])

-- the input ended: with what the writer got, the text is the report of all bytes that came
abbrev pub EndsInput : Feed → Known → Known → Type 0
EndsInput old before after =
    (bytes text : List ℕ) → IsFeedOf bytes text old
    → (added : List ℕ) × IsReportOf bytes (text ++ added) × Appends before after added

-- the writer got the line of a day of the book, if it has a load
abbrev pub WritesDayLine : ℕ → Feed → Known → Known → Type 0
WritesDayLine day f before after =
    InEveryHistory f.intake (λ k t. Appends before after (day_line (reported_day t day)))

-- the writer got the lines of all days with a load
abbrev pub WritesDayLines : Feed → Known → Known → Type 0
WritesDayLines f before after = InEveryHistory f.intake (λ k t. Appends before after (day_lines t))

-- a reader gave n bytes, none only at the end, and they were taken
abbrev pub ReadsPiece : ℕ → ℕ → Known → Known → Feed → Feed → Known → Known → Type 0
ReadsPiece n room left rest old new before after =
    (bytes : List ℕ)
    × Consumes left rest bytes
    × (n ≡ 0 → 0 < room → IsAtEnd rest)
    × TakesBytes bytes old new before after

-- a reader gave its bytes to the end, where they are known, and they were taken
abbrev pub ReadsAll : Known → Known → Feed → Feed → Known → Known → Type 0
ReadsAll left rest old new before after =
    (bytes : List ℕ) × Consumes left rest bytes × IsAtEnd rest × TakesBytes bytes old new before after

-- a reader gave its bytes to the end, where they are known, and the writer got their report
abbrev pub ReportsAll : Known → Known → Known → Known → Type 0
ReportsAll left rest before after =
    (bytes text : List ℕ)
    × Consumes left rest bytes
    × IsAtEnd rest
    × IsReportOf bytes text
    × Appends before after text
