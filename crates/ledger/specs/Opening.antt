-- How a book is opened: its days, when an opening is refused, and the setting that it makes.
use Rattle.std.specs.Prelude.{◌≡◌, ℕ, ◌+◌, ◌-◌, ◌*◌, Bool, not, ◌&&◌, ◌||◌, [], ◌∷◌, Some, None, Ok, Err, Option, Result, MatchBool, nat_le, nat_lt}
use Rattle.calendar.specs.Digits.{day_number_of, is_date}
use Rattle.calendar.specs.Gregorian.{days_in_all}
use Rattle.estimators.specs.Limits.{last_day, last_point}
use Rattle.estimators.specs.Meaning.{Meaning}
use Rattle.rules.specs.History.{Setting}
use Rattle.allocation.specs.Loads.{largest_unaccounted, meters}
use Rattle.terms.specs.Answers.{Answers, IsRefusedBy}
use Rattle.terms.specs.Refusal.{number_of}
use Rattle.terms.specs.declared.refusal.Refusal.{Refusal}
use Rattle.ledger.specs.declared.opening.Opening.{Opening}
use Rattle.ledger.specs.declared.opening.OpeningRequest.{OpeningRequest}
use Rattle.rules.specs.Calls.{is_between, first_refusal}
use Rattle.terms.specs.RefusalNumbers.{beyond_limits, list_too_short, no_such_date, outside_book}

-- a day number is that of a day of the book, or of one at most so many days later
abbrev pub has_day_number : Opening → ℕ → ℕ → Bool
has_day_number o later day_number =
    nat_le o.first day_number && nat_lt day_number (o.first + o.days + later)

-- the day of a date is judged so: refused by number 4 where there is no such date, and by 5 where
-- it lies outside the book
abbrev pub JudgesDay : Opening → ℕ → Result ℕ Refusal → Type 0
JudgesDay o date r =
    MatchBool (is_date date)
    (Answers r (has_day_number o 0 (day_number_of date)) (day_number_of date - o.first) outside_book)
    (IsRefusedBy no_such_date r)

-- 3: a number is beyond its limits, or the last day is later than 30 December 2099
abbrev pub is_opening_beyond_limits : OpeningRequest → Bool
is_opening_beyond_limits q =
    not (is_between 1 last_day q.days
    && (is_between 1 last_point q.points && nat_le q.unaccounted largest_unaccounted))
    || (is_date q.first_date && not (nat_lt (day_number_of q.first_date + q.days) days_in_all))

-- 15: the interval list has fewer places than meters on all days, or the reading list none
abbrev pub are_lists_short : ℕ → ℕ → ℕ → Bool
are_lists_short days interval_places reading_places =
    not (nat_le (days * meters) interval_places && nat_le 1 reading_places)

-- the refusal of an opening, by its number; none where it is accepted
abbrev pub opening_refusal : OpeningRequest → ℕ → ℕ → Option ℕ
opening_refusal q interval_places reading_places =
    first_refusal
    (record { number = beyond_limits; holds = is_opening_beyond_limits q }
    ∷ record { number = no_such_date; holds = not (is_date q.first_date) }
    ∷ record { number = list_too_short; holds = are_lists_short q.days interval_places reading_places } ∷ [])

-- the opening that is asked for
abbrev pub opening_of : OpeningRequest → Opening
opening_of q = record {
  first = day_number_of q.first_date;
  days = q.days;
  points = q.points;
  unaccounted = q.unaccounted;
}

-- an opening is judged so
abbrev pub JudgesOpening : OpeningRequest → ℕ → ℕ → Result Opening Refusal → Type 0
JudgesOpening q interval_places reading_places (Ok o) =
    (opening_refusal q interval_places reading_places ≡ None) × (o ≡ opening_of q)
JudgesOpening q interval_places reading_places (Err e) =
    opening_refusal q interval_places reading_places ≡ Some (number_of e)

-- the setting of a book that opens so, beside an estimator
abbrev pub setting_of : OpeningRequest → ℕ → Meaning → (ℕ → Meaning) → Setting
setting_of q reading_places opening weather = record {
  first = day_number_of q.first_date;
  days = q.days;
  points = q.points;
  unaccounted = q.unaccounted;
  places = reading_places;
  opening = opening;
  weather = weather;
}
