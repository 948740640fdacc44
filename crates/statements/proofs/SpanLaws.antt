-- What refuses a span and a draw over it. Assumes nothing.
use Rattle.std.proofs.Common.{◌≡◌, ℕ, ◌+◌, ◌<◌, ◌≤◌, Bool, true, false, cond, not, ◌&&◌, ltb, [], ◌∷◌, is_some, Some, None, Option, refl, arith}
use Rattle.std.specs.Option.{option_or}
use Rattle.calendar.specs.Digits.{day_number_of, is_date}
use Rattle.rules.specs.History.{History, Setting}
use Rattle.book.proofs.BookDays as book_days
use Rattle.book.specs.Days.{days_refusal}
use Rattle.statements.specs.Draws.{draw_refusal}
use Rattle.statements.specs.Spans.{span_day_count, span_days, span_refusal}
use Rattle.statements.specs.declared.statement.Span.{Span}
use Rattle.rules.specs.Calls.{first_refusal, first_day_without_load, is_in_book, day_of_date}

-- what is known of a span that nothing refuses
module _ (s : Setting) (span : Span) (none : span_refusal s span ≡ None) where
  accepted : book_days.AreAccepted s span.first span.last
  accepted = book_days.accepted_days s span.first span.last none

  pub accepted_dates : (is_date span.first ≡ true) × (is_date span.last ≡ true)
  accepted_dates = (accepted.first_real, accepted.last_real)

  pub accepted_days : (0 < span_day_count span) × (day_of_date s span.first + span_day_count span ≤ s.days)
  accepted_days = (omega (arith, accepted.ordered), omega (arith, accepted.low, accepted.ordered, accepted.high))

  pub accepted_last_day : day_of_date s span.last + 1 ≡ day_of_date s span.first + span_day_count span
  accepted_last_day = omega (arith, accepted.low, accepted.ordered)

-- a draw is refused as its span is, and else for a load or the list
pub draw_by_span : (s : Setting) (h : History) (span : Span) (wanted places : ℕ)
    → draw_refusal s h span wanted places
    ≡ option_or (span_refusal s span) (first_refusal (record { number = 14; holds = is_some (first_day_without_load s h (span_days s span)) } ∷ record { number = 15; holds = ltb places wanted } ∷ []))
unfolding days_refusal
draw_by_span s h span wanted places = split (not (is_date span.first && is_date span.last)) (not (is_in_book s 0 span.first && is_in_book s 0 span.last)) (ltb (day_number_of span.last) (day_number_of span.first)) _
  where
    split : (a b c : Bool) (o : Option ℕ) → cond a (Some 4) (cond b (Some 5) (cond c (Some 10) o)) ≡ option_or (cond a (Some 4) (cond b (Some 5) (cond c (Some 10) None))) o
    split true b c o = refl
    split false true c o = refl
    split false false true o = refl
    split false false false o = refl
