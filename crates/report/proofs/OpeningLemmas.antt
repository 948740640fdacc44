-- A book that a line opens. Assumes nothing.
use Rattle.std.proofs.Common.{◌≡◌, ℕ, ◌+◌, ◌-◌, ◌*◌, ◌<◌, ◌≤◌, Bool, true, false, cond, not, leb, List, [], Some, None, Ok, Option, Result, vec_len, refl, ap, ◌∙◌, subst, arith}
use Rattle.std.proofs.lemmas.Bool.Decides.{nat_tests}
use Rattle.book.specs.declared.book.Book.{Book}
use Rattle.book.specs.declared.book.Lists.{Lists}
use Rattle.estimates.specs.declared.by_weather.ByWeather.{ByWeather}
use Rattle.calendar.specs.Digits.{day_number_of, is_date}
use Rattle.calendar.specs.Gregorian.{days_in_all}
use Rattle.estimators.specs.Meaning.{Meanings, meanings_of}
use Rattle.rules.specs.History.{History, Setting}
use Rattle.ledger.specs.declared.opening.OpeningRequest.{OpeningRequest}
use Rattle.line_format.proofs.BookEnds.{last_end}
use Rattle.line_format.specs.declared.record.Factors.{Factors}
use Rattle.line_format.specs.declared.record.Opening.{Opening}
use Rattle.line_format.specs.declared.record.Record.TheVariants as of
use Rattle.terms.specs.Answers.{Answers, accepted_since}
use Rattle.terms.specs.declared.refusal.Refusal.{Refusal}
use Rattle.report.proofs.FactorsLemmas.{none_bounded, none_yet, weather_bounded, weather_stands}
use Rattle.report.specs.Intake.{HasFactors, HasRoom, IsOpenedBookOf, weather_meanings}
use Rattle.report.specs.IntakeHistory.{no_figure, setting_of_opening, weather_meaning}
use Rattle.estimates.specs.ByWeather.{weather_figures, weather_figures_under}
use Rattle.ledger.specs.Opening.{is_opening_beyond_limits}
use Rattle.line_format.specs.Limits.{ends_in_time, verdict, largest_book}
use Rattle.book.specs.Case.{Beyond, Case}
use Rattle.book.specs.Book.{IsBookOf}
use Rattle.book.specs.Opening.{OpensBook, are_book_lists_short, book_opening_refusal, opening_case, rest_of}

-- what a book is asked to open with
abbrev pub request : Opening → OpeningRequest
request o = record { first_date = o.first_date; days = o.days; points = 32; unaccounted = o.unaccounted }

-- what an opening within its limits says
pub record Within (o : Opening) : Type 0 where
  pub some : 1 ≤ o.days
  pub few : o.days ≤ 62
  pub unaccounted : o.unaccounted ≤ 2000
  pub real : is_date o.first_date ≡ true
  pub in_time : day_number_of o.first_date + o.days < days_in_all

ends : (first days : ℕ) → is_date first ≡ true → 1 ≤ days → ends_in_time first days ≡ true → day_number_of first + days < days_in_all
unfolding ends_in_time
ends first days real some in_time =
    let at : leb (day_number_of first + days - 1) (day_number_of 20991230) ≡ true = rw real at in_time in
    let by : leb (day_number_of first + days - 1) 36157 ≡ true = rw last_end at at in
    grind (arith, nat_tests)

pub within : (o : Opening) → verdict largest_book (of.Opening o) ≡ None → Within o
within o none =
    let some : 1 ≤ o.days = grind (arith, nat_tests) in
    let few : o.days ≤ 62 = grind (arith, nat_tests) in
    let real : is_date o.first_date ≡ true = grind (arith, nat_tests) in
    let in_time : ends_in_time o.first_date o.days ≡ true = grind (arith, nat_tests) in
    record { some = some; few = few; unaccounted = grind (arith, nat_tests); real = real; in_time = ends o.first_date o.days real some in_time }

-- a test that decides, and what comes after it
cond_none : (b : Bool) (n : ℕ) (o : Option ℕ) → cond b (Some n) o ≡ None → (b ≡ false) × (o ≡ None)
cond_none true n o none = absurd (cc)
cond_none false n o none = (refl, none)

none_cond : (b : Bool) (n : ℕ) (o : Option ℕ) → b ≡ false → o ≡ None → cond b (Some n) o ≡ None
none_cond b n o fails none = rw (fails, none)

not_beyond : (o : Opening) → Within o → is_opening_beyond_limits (request o) ≡ false
not_beyond o w = let real = w.real in let some = w.some in let few = w.few in let unaccounted = w.unaccounted in let in_time = w.in_time in grind (arith, nat_tests)

long_lists : (o : Opening) (lists : Lists) → Within o → HasRoom lists → are_book_lists_short (request o) lists ≡ false
long_lists o lists w room =
    let few = w.few in
    let sheet : o.days * 32 ≤ vec_len lists.sheet = omega (arith, room.sheet) in
    let intervals : o.days * 32 ≤ vec_len lists.intervals = omega (arith, room.intervals) in
    let readings : 1 ≤ vec_len lists.readings = omega (arith, room.readings) in
    grind (arith, nat_tests)

-- where there is room such an opening is not refused
opens_within : (o : Opening) (lists : Lists) → Within o → HasRoom lists → book_opening_refusal (request o) lists ≡ None
opens_within o lists w room =
    none_cond (is_opening_beyond_limits (request o)) 3 _ (not_beyond o w)
    (none_cond (not (is_date o.first_date)) 4 _ (ap not w.real) (none_cond (are_book_lists_short (request o) lists) 15 None (long_lists o lists w room) refl))

pub never_refused : (o : Opening) (lists : Lists) (n : ℕ) → verdict largest_book (of.Opening o) ≡ None → book_opening_refusal (request o) lists ≡ Some n → HasRoom lists → ⊥
never_refused o lists n none refused room = let opens = opens_within o lists (within o none) room in absurd (cc)

-- a book follows what it followed, beside an estimator that means the same
pub same_meaning : {c : Case} {b : Book} {m m' : Meanings} → ((p d : ℕ) → m'.current p d ≡ m.current p d)
    → ((count p d : ℕ) → m'.under count p d ≡ m.under count p d) → IsBookOf c b m → IsBookOf c b m'
same_meaning same same_under f = record {
  lawful = f.lawful;
  limited = f.limited;
  entries = f.entries;
  figures = f.figures;
  intervals = f.intervals;
  estimates = λ d p. same p (d + 1) ∙ f.estimates d p;
  weather = λ count p d. same_under count p d ∙ f.weather count p d;
}

-- with as many reading places as lines give it is the setting of the rules
setting_is : (fs : List Factors) (o : Opening) (lists : Lists) → HasRoom lists
    → (opening_case (request o) lists (meanings_of no_figure (weather_meaning fs))).setting ≡ setting_of_opening fs o
setting_is fs o lists room = ap (λ (n : ℕ). record {
  first = day_number_of o.first_date;
  days = o.days;
  points = 32;
  unaccounted = o.unaccounted;
  places = n;
  opening = no_figure;
  weather = weather_meaning fs;
}) room.readings

-- what opens has no entry
pub opened_stands : (o : Opening) (lists : Lists) (b : Book) (first : ℕ) → verdict largest_book (of.Opening o) ≡ None → OpensBook (request o) lists (Ok b) → first ≡ day_number_of o.first_date
    → (fs : List Factors) (w : ByWeather) → HasRoom lists → HasFactors fs w → IsOpenedBookOf (setting_of_opening fs o) [] (record { book = b; days = record { first_day_number = first; count = o.days } }) w
opened_stands o lists b first none opened is fs w room stands = record {
  days = record { first = is; days = refl; in_time = (within o none).in_time };
  rest = rest_of (request o) lists;
  follows =
      subst
      (λ (s : Setting). IsBookOf (record { setting = s; rest = rest_of (request o) lists; history = [] }) b (weather_meanings w))
      (setting_is fs o lists room)
      (same_meaning (none_yet fs w stands) (weather_stands fs w stands)
      (opened.1 (meanings_of no_figure (weather_meaning fs)) none_bounded (weather_bounded fs w stands)));
}

-- the number of a date that there is
pub number_given : (r : Result ℕ Refusal) (real : Bool) (number n : ℕ) → Answers r real number 4 → r ≡ Ok n → n ≡ number
number_given r real number n answers is =
    (accepted_since n real (λ (x : ℕ). x ≡ number) 4 (subst (λ (x : Result ℕ Refusal). Answers x real number 4) is answers)).1
