-- A day of the book, as it is reported. Assumes nothing.
use Rattle.std.proofs.Common.{◌≡◌, ℕ, ◌+◌, ◌<◌, min, true, cond, ltb, Some, None, Ok, Err, Option, Result, sym, ap, ◌∙◌, subst, arith}
use Rattle.std.specs.Option.{option_map, unwrap_or}
use Rattle.std.specs.Result.{result_ok}
use Rattle.std.proofs.lemmas.Bool.Decides.{nat_tests}
use Rattle.book.specs.Replies.{day_is}
use Rattle.estimates.specs.declared.by_weather.ByWeather.{ByWeather}
use Rattle.calendar.specs.Gregorian.{days_in_all}
use Rattle.rules.specs.History.{History, Setting}
use Rattle.rules.specs.declared.call.Call.TheVariants.{AskDay}
use Rattle.terms.specs.Answers.{AnswersBy, accepted_since}
use Rattle.terms.specs.declared.refusal.Refusal.{Refusal}
use Rattle.report.specs.declared.day_line.DayLine.{DayLine}
use Rattle.report.proofs.BookAnswerLemmas.{day_known}
use Rattle.report.specs.declared.opened_book.OpenedBook.{OpenedBook}
use Rattle.report.specs.Intake.{IsOpenedBookOf, weather_meanings}
use Rattle.report.specs.IntakeHistory.{reported_book_day}
use Rattle.calendar.proofs.NextDates.{only_date_of_day_number}
use Rattle.calendar.specs.Digits.{HasDayNumber, date_of_day_number}
use Rattle.sheet.specs.Account.{day_account}
use Rattle.sheet.specs.declared.account.Account.{Account}
use Rattle.book.specs.Book.{IsAnsweredByLaw}

-- a date that was answered is that of its number
numbered : (r : Result ℕ Refusal) (k date : ℕ) → AnswersBy r (ltb k days_in_all) (λ n. HasDayNumber n k) 4 → Some date ≡ result_ok r → HasDayNumber date k
numbered (Ok n) k date answers is =
    let given = accepted_since n (ltb k days_in_all) (λ n. HasDayNumber n k) 4 answers in
    subst (λ (m : ℕ). HasDayNumber m k) (sym (ap (λ o. unwrap_or o 0) is)) given.1
numbered (Err e) k date answers is = absurd (cc)

-- the line of a date and what a day's question is answered
abbrev pub line_of : ℕ → Option Account → Option DayLine
line_of date o = option_map (λ figures. record { date = date; figures = figures }) o

within_days : (d days : ℕ) (o : Option DayLine) → d < days → o ≡ cond (ltb d days) o None
within_days d days o inside = let passes : ltb d days ≡ true = grind (arith, nat_tests) in rw passes

pub reported_day_is : (s : Setting) (h : History) (b : OpenedBook) (w : ByWeather) (d k date : ℕ) (numbers : Result ℕ Refusal) (asked : Result Account Refusal) (line : Option DayLine)
    → IsOpenedBookOf s h b w → d < b.days.count → k ≡ min (b.days.first_day_number + d) 4294967295 → AnswersBy numbers (ltb k days_in_all) (λ n. HasDayNumber n k) 4 → Some date ≡ result_ok numbers
    → IsAnsweredByLaw (AskDay date) day_is asked b.book (weather_meanings w) → (o : Option Account) → o ≡ result_ok asked → line ≡ line_of date o → line ≡ reported_book_day s h d
reported_day_is s h b w d k date numbers asked line stands before sum answers given asks o is shown =
    let inside : d < s.days = omega (arith, stands.days.days, before) in
    let number : k ≡ s.first + d = omega (arith, stands.days.first, stands.days.in_time, inside, sum) in
    let there = subst (λ (n : ℕ). HasDayNumber date n) number (numbered numbers k date answers given) in
    let known = day_known s h date d there.0 there.1 inside asked (asks.law (record { setting = s; rest = stands.rest; history = h }) stands.follows) in
    shown ∙ ap (line_of date) (is ∙ known) ∙ ap (λ (n : ℕ). line_of n (day_account s h d)) (only_date_of_day_number date (s.first + d) there) ∙ within_days d s.days (line_of (date_of_day_number (s.first + d)) (day_account s h d)) inside
