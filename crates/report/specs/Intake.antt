-- An intake holds what its lines amount to.
use Rattle.std.specs.Prelude.{◌≡◌, ℕ, ◌+◌, ◌*◌, ◌<◌, ◌≤◌, min, Bool, false, not, List, [], length, None, Ok, Err, Result, vec_len}
use Rattle.std.specs.Option.{option_map}
use Rattle.book.specs.declared.book.Lists.{Lists}
use Rattle.calendar.specs.Gregorian.{days_in_all}
use Rattle.estimates.specs.declared.by_weather.ByWeather.{ByWeather}
use Rattle.estimators.specs.Limits.{last_point}
use Rattle.ledger.specs.declared.opening.Unopened.{Unopened}
use Rattle.line_format.specs.declared.fault.LineFault.{LineFault}
use Rattle.line_format.specs.declared.fault.Fault.{Fault}
use Rattle.line_format.specs.declared.record.Factors.{Factors}
use Rattle.line_format.specs.declared.record.Opening.{Opening}
use Rattle.line_format.specs.declared.record.Record.{Record}
use Rattle.rules.specs.History.{History, Setting}
use Rattle.report.specs.IntakeHistory.{IntakeHistory, history_with_record, latest_factors, opened, reading_places, setting_of_opening, unopened}
use Rattle.report.specs.LineContent.{HasContent, LineContent, history_after_line, line_refusal, reported_answer, reported_refusal}
use Rattle.report.specs.RecordRefusal.{history_unless_refused, is_before_book, placed_refusal, refusal_by_book}
use Rattle.report.specs.declared.book_days.BookDays.{BookDays}
use Rattle.report.specs.declared.intake.Intake.{Intake}
use Rattle.report.specs.declared.opened_book.OpenedBook.{OpenedBook}
use Rattle.report.specs.declared.stage.Stage.{Stage}
use Rattle.report.specs.declared.stage.Stage.TheVariants as stage
use Rattle.allocation.specs.Loads.{meters}
use Rattle.estimates.specs.ByWeather.{count_of, factors_of, weather_figures, weather_figures_under}
use Rattle.book.specs.Case.{Beyond}
use Rattle.estimators.specs.Meaning.{Meanings, meanings_of}
use Rattle.book.specs.Book.{IsBookOf}
use Rattle.line_format.specs.Limits.{largest_book}
use Rattle.line_format.specs.Fault.{last_line_number}

-- lists in whose memory the largest book can be kept
pub record HasRoom (lists : Lists) : Type 0 where
  pub sheet : largest_book.days * largest_book.points ≤ vec_len lists.sheet
  pub intervals : largest_book.days * meters ≤ vec_len lists.intervals
  pub readings : vec_len lists.readings ≡ reading_places

-- an estimator by weather with these factors and no count
pub record HasFactors (fs : List Factors) (w : ByWeather) : Type 0 where
  pub table : length w.factors ≡ last_point
  pub factors : (point : ℕ) → factors_of w point ≡ latest_factors fs point
  pub counts : (place : ℕ) → count_of w place ≡ None

-- what an estimator by weather means, now and under each degree-day count
abbrev pub weather_meanings : ByWeather → Meanings
weather_meanings w = meanings_of (weather_figures w) (weather_figures_under w)

-- the days of a book, which ends in time
pub record IsDaysOf (s : Setting) (own : BookDays) : Type 0 where
  pub first : own.first_day_number ≡ s.first
  pub days : own.count ≡ s.days
  pub in_time : s.first + s.days < days_in_all

-- a book and its estimator are as a history leaves them
pub record IsOpenedBookOf (s : Setting) (h : History) (o : OpenedBook) (w : ByWeather) : Type 0 where
  pub days : IsDaysOf s o.days
  pub rest : Beyond
  pub follows : IsBookOf (record { setting = s; rest = rest; history = h }) o.book (weather_meanings w)

-- the stage and the estimator are as a history leaves them
abbrev pub IsStageOf : IntakeHistory → Stage → ByWeather → Type 0
IsStageOf (unopened fs) (stage.Unopened lists) w = HasRoom lists × HasFactors fs w
IsStageOf (opened s h) (stage.Opened o) w = IsOpenedBookOf s h o w
IsStageOf t stage w = ⊥

-- an intake is as k lines leave it that amount to a history
pub record IsIntakeOf (k : ℕ) (t : IntakeHistory) (intake : Intake) : Type 0 where
  pub lines : intake.lines ≡ min k last_line_number
  pub stage : IsStageOf t intake.stage intake.weather

-- P holds of the setting whose days these are, of the history of a book, of the history of a stage,
-- and of an intake's
abbrev pub InEverySetting : BookDays → (Setting → Type 0) → Type 0
InEverySetting days P = (s : Setting) → IsDaysOf s days → P s

abbrev pub InEveryBookHistory : OpenedBook → ByWeather → (Setting → History → Type 0) → Type 0
InEveryBookHistory o w P = (s : Setting) (h : History) → IsOpenedBookOf s h o w → P s h

abbrev pub InEveryStageHistory : Stage → ByWeather → (IntakeHistory → Type 0) → Type 0
InEveryStageHistory stage w P = (t : IntakeHistory) → IsStageOf t stage w → P t

abbrev pub InEveryHistory : Intake → (ℕ → IntakeHistory → Type 0) → Type 0
InEveryHistory intake P = (k : ℕ) (t : IntakeHistory) → IsIntakeOf k t intake → P k t

-- an opening within its limits opens a book with no entry, given room for it; where it is refused
-- the lists come back
abbrev pub OpensByLine : Opening → Lists → Result OpenedBook (Unopened Lists) → Type 0
OpensByLine o lists (Ok b) =
    (fs : List Factors) (w : ByWeather) → HasRoom lists → HasFactors fs w
    → IsOpenedBookOf (setting_of_opening fs o) [] b w
OpensByLine o lists (Err e) = (e.lists ≡ lists) × (HasRoom lists → ⊥)

-- all but the count of lines stays
abbrev pub KeepsEntries : Intake → Intake → Type 0
KeepsEntries old new = (new.stage ≡ old.stage) × (new.weather ≡ old.weather)

-- a record comes in its turn at a stage
abbrev pub is_turn_at : Stage → Record → Bool
is_turn_at (stage.Unopened lists) x = is_before_book x
is_turn_at stage.Opening x = false
is_turn_at (stage.Opened o) x = not (is_before_book x)

-- a record is accepted
abbrev pub AcceptsRecord : Record → Result (Unit {0}) Fault
    → Stage → ByWeather → Stage → ByWeather → Type 0
AcceptsRecord x r stage w stage' w' =
    InEveryStageHistory stage w
    (λ t. (placed_refusal r ≡ None) × IsStageOf (history_with_record t x) stage' w')

-- a record is entered, or refused as the book refuses it
abbrev pub EntersRecord : Record → Result (Unit {0}) Fault → Intake → Intake → Type 0
EntersRecord x r old new =
    InEveryStageHistory old.stage old.weather
    (λ t. (placed_refusal r ≡ refusal_by_book t x)
    × IsStageOf (history_unless_refused (refusal_by_book t x) t (history_with_record t x))
    new.stage new.weather)

-- a line is entered, or refused as the rules refuse what it says
abbrev pub EntersLine : List ℕ → Result (Unit {0}) Fault → Intake → Intake → Type 0
EntersLine bytes r old new =
    InEveryStageHistory old.stage old.weather
    (λ t. (content : LineContent)
    × HasContent bytes content
    × (placed_refusal r ≡ line_refusal t content)
    × IsStageOf (history_after_line t content) new.stage new.weather)

-- the same of the next line, with its number
abbrev pub TakesLine : List ℕ → Result (Unit {0}) LineFault → Intake → Intake → Type 0
TakesLine bytes r old new =
    InEveryHistory old
    (λ k t. (content : LineContent)
    × HasContent bytes content
    × (reported_answer r ≡ option_map (reported_refusal k) (line_refusal t content))
    × IsIntakeOf (k + 1) (history_after_line t content) new)
