-- A span of days: what refuses it, its days, and sums over them.
use Rattle.std.specs.Prelude.{ℕ, List, map, sum, Option}
use Rattle.std.specs.List.{range_with_len}
use Rattle.rules.specs.History.{Setting}
use Rattle.book.specs.Days.{day_count, days_refusal}
use Rattle.statements.specs.declared.statement.Span.{Span}
use Rattle.rules.specs.Calls.{day_of_date}

-- the refusal of a span, whatever is asked over it: as a book refuses its days
abbrev pub span_refusal : Setting → Span → Option ℕ
span_refusal s span = days_refusal s span.first span.last

-- how many days a span has, its last one included
abbrev pub span_day_count : Span → ℕ
span_day_count span = day_count span.first span.last

-- the days of a span, by their places in the book
abbrev pub span_days : Setting → Span → List ℕ
span_days s span = range_with_len (day_of_date s span.first) (span_day_count span)

-- what n days from day d on come to, f giving the number of each
unfoldable pub sum_over : (ℕ → ℕ) → ℕ → ℕ → ℕ
sum_over f d n = sum (map f (range_with_len d n))

-- the same over the days of a span
abbrev pub sum_over_span : Setting → (ℕ → ℕ) → Span → ℕ
sum_over_span s f span = sum_over f (day_of_date s span.first) (span_day_count span)
