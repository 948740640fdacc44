-- What the lines accepted so far amount to.
use Rattle.std.specs.Prelude.{ℕ, ◌+◌, List, [], ◌∷◌, if◌then◌else◌, Some, None, Option, ◌==◌, nat_lt}
use Rattle.std.specs.Option.{option_map}
use Rattle.calendar.specs.Digits.{day_number_of, date_of_day_number}
use Rattle.estimates.specs.Factors.{weather_figure}
use Rattle.estimates.specs.declared.factors.Factors as weather
use Rattle.estimators.specs.Meaning.{Meaning, weather_within}
use Rattle.line_format.specs.Limits.{largest_book}
use Rattle.line_format.specs.declared.record.Factors.{Factors}
use Rattle.line_format.specs.declared.record.Opening.{Opening}
use Rattle.line_format.specs.declared.record.Record.{Record}
use Rattle.line_format.specs.declared.record.Record.TheVariants as of
use Rattle.rules.specs.History.{History, Setting}
use Rattle.rules.specs.declared.call.Call.{Call}
use Rattle.rules.specs.declared.call.Call.TheVariants.{Enrol, EnterGate, EnterInterval, EnterDegreeDays, EnterReading}
use Rattle.report.specs.declared.day_line.DayLine.{DayLine}
use Rattle.sheet.specs.Account.{day_account}
use Rattle.book.specs.Replies.{history_after_call}

-- before the opening the factors, the newest first; from it on the setting of the book, and its
-- history
pub data IntakeHistory : Type 0 where
  unopened : List Factors → IntakeHistory
  opened : Setting → History → IntakeHistory

-- before the first line
abbrev pub initial_history : IntakeHistory
initial_history = unopened []

-- the places that a book of lines has for readings
abbrev pub reading_places : ℕ
reading_places = 256

-- the latest factors of a point
abbrev pub latest_factors : List Factors → ℕ → Option weather.Factors
latest_factors [] point = None
latest_factors (f ∷ fs) point =
    if f.point == point
    then Some (record { base_load = f.base_load; sensitivity = f.sensitivity })
    else latest_factors fs point

-- the figure by weather of a point under a count, on a day of any book; a point without factors has
-- none
abbrev pub weather_meaning : List Factors → ℕ → Meaning
weather_meaning fs count point place =
    if weather_within place count
    then option_map (λ f. weather_figure f count) (latest_factors fs point)
    else None

-- before any count has come there is no figure
abbrev pub no_figure : Meaning
no_figure point place = None

-- the setting of the book that a line opens, given these factors
abbrev pub setting_of_opening : List Factors → Opening → Setting
setting_of_opening fs o = record {
  first = day_number_of o.first_date;
  days = o.days;
  points = largest_book.points;
  unaccounted = o.unaccounted;
  places = reading_places;
  opening = no_figure;
  weather = weather_meaning fs;
}

-- the call on a book that enters a record; factors and the opening come before there is a book
abbrev pub call_of_record : Record → Option Call
call_of_record (of.Opening r) = None
call_of_record (of.Factors r) = None
call_of_record (of.Enrolment r) = Some (Enrol r.point r.retailer r.start)
call_of_record (of.GateDay r) = Some (EnterGate r.date r.energy_in r.energy_out)
call_of_record (of.IntervalEnergy r) = Some (EnterInterval r.date r.meter r.energy)
call_of_record (of.DegreeDays r) = Some (EnterDegreeDays r.date r.count)
call_of_record (of.Reading r) =
    Some (EnterReading (record {
      point = r.point;
      start = r.start;
      end = r.end;
      energy = r.energy;
      reading_type = r.reading_type;
    }))

-- a book's history with a call, if there is one
abbrev pub history_with_call : Setting → History → Option Call → History
history_with_call s h None = h
history_with_call s h (Some c) = history_after_call s h c

-- with a record that is accepted: its factors before the others, a book opened, or the book's
-- history with its call
abbrev pub history_with_record : IntakeHistory → Record → IntakeHistory
history_with_record (unopened fs) (of.Opening o) = opened (setting_of_opening fs o) []
history_with_record (unopened fs) (of.Factors f) = unopened (f ∷ fs)
history_with_record (unopened fs) x = unopened fs
history_with_record (opened s h) x = opened s (history_with_call s h (call_of_record x))

-- how many days there are to report
abbrev pub day_count_of : IntakeHistory → ℕ
day_count_of (unopened fs) = 0
day_count_of (opened s h) = s.days

-- what is reported of a day of the book, if it has a load: its date, and its account
abbrev pub reported_book_day : Setting → History → ℕ → Option DayLine
reported_book_day s h day =
    if nat_lt day s.days
    then option_map (λ figures. record { date = date_of_day_number (s.first + day); figures = figures })
    (day_account s h day)
    else None

-- the same of a day of the intake; before there is a book there is no day
abbrev pub reported_day : IntakeHistory → ℕ → Option DayLine
reported_day (unopened fs) day = None
reported_day (opened s h) day = reported_book_day s h day
