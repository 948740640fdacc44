-- What follows from the definitions of spans, sums and lists.
use Rattle.std.specs.Prelude.{◌≡◌, ℕ, ◌+◌, ◌*◌, ◌<◌, ◌≤◌, true, ℤ, pos, ◌+ℤ◌, List, [], ◌∷◌, drop, is_some, None, slice_index_or, nat_lt}
use Rattle.std.specs.Option.{option_or}
use Rattle.calendar.specs.Digits.{is_date}
use Rattle.rules.specs.History.{History, Setting}
use Rattle.statements.specs.Draws.{HasLoads, draw_refusal}
use Rattle.statements.specs.Limits.{later_places, sum_count}
use Rattle.statements.specs.Lists.{adjustment_at, later_list, shown_at}
use Rattle.statements.specs.Spans.{span_day_count, span_days, span_refusal, sum_over}
use Rattle.statements.specs.Sums.{excess_over, load_over, remainder_over, retailers_over}
use Rattle.statements.specs.declared.statement.Span.{Span}
use Rattle.statements.specs.declared.sums.Sums.{Sums}
use Rattle.rules.specs.Calls.{IsLawful, first_refusal, first_day_without_load, day_of_date}
use Rattle.terms.specs.RefusalNumbers.{asked_day_without_load, list_too_short}

-- the sums of the last of some stages
abbrev pub last_of : Sums → List Sums → Sums
last_of first [] = first
last_of first (next ∷ later) = last_of next later

-- what the adjustments of stages that come one after another add up to, at a place
abbrev pub adjustments_sum : Sums → List Sums → ℕ → ℤ
adjustments_sum first [] place = pos 0
adjustments_sum first (next ∷ later) place = adjustment_at first next place +ℤ adjustments_sum next later place

pub record AdjustmentsLeadOn : Type 0 where
  -- a later stage's list: the adjustments, the sums after them, and the rest as it was
  pub first_places :
      (old new : Sums) (before : List ℤ) (place : ℕ) → place < sum_count
      → slice_index_or (later_list old new before) place (pos 0) ≡ adjustment_at old new place
  pub next_places :
      (old new : Sums) (before : List ℤ) (place : ℕ) → place < sum_count
      → slice_index_or (later_list old new before) (sum_count + place) (pos 0) ≡ shown_at new place
  pub rest :
      (old new : Sums) (before : List ℤ) → drop later_places (later_list old new before) ≡ drop later_places before
  -- an adjustment added to the old sum gives the new one
  pub leads_on :
      (old new : Sums) (before : List ℤ) (place : ℕ) → place < sum_count
      → shown_at old place +ℤ slice_index_or (later_list old new before) place (pos 0)
      ≡ slice_index_or (later_list old new before) (sum_count + place) (pos 0)
  -- the adjustments of all stages, added to the first sum, give the last
  pub add_up :
      (first : Sums) (later : List Sums) (place : ℕ)
      → shown_at first place +ℤ adjustments_sum first later place ≡ shown_at (last_of first later) place

pub record SpansAreJudgedAndSummed : Type 0 where
  -- a span that nothing refuses: its dates exist, and its days lie in the book, one or more
  pub dates :
      (s : Setting) (span : Span) → span_refusal s span ≡ None
      → (is_date span.first ≡ true) × (is_date span.last ≡ true)
  pub days :
      (s : Setting) (span : Span) → span_refusal s span ≡ None
      → (0 < span_day_count span) × (day_of_date s span.first + span_day_count span ≤ s.days)
  pub last_day :
      (s : Setting) (span : Span) → span_refusal s span ≡ None
      → day_of_date s span.last + 1 ≡ day_of_date s span.first + span_day_count span
  -- a draw is refused as its span is, and else for a load or the list
  pub draw_by_span :
      (s : Setting) (h : History) (span : Span) (wanted places : ℕ)
      → draw_refusal s h span wanted places
      ≡ option_or (span_refusal s span)
      (first_refusal
      (record { number = asked_day_without_load; holds = is_some (first_day_without_load s h (span_days s span)) }
      ∷ record { number = list_too_short; holds = nat_lt places wanted } ∷ []))
  -- sums over days: of none, of one more, of days on both sides of a day, of numbers that agree, and at most
  pub of_none : (f : ℕ → ℕ) (d : ℕ) → sum_over f d 0 ≡ 0
  pub of_one_more : (f : ℕ → ℕ) (d n : ℕ) → sum_over f d (n + 1) ≡ sum_over f d n + f (d + n)
  pub of_parts : (f : ℕ → ℕ) (d m n : ℕ) → sum_over f d (m + n) ≡ sum_over f d m + sum_over f (d + m) n
  pub of_alike :
      (f g : ℕ → ℕ) (d n : ℕ) → ((k : ℕ) → k < n → f (d + k) ≡ g (d + k)) → sum_over f d n ≡ sum_over g d n
  pub at_most :
      (f : ℕ → ℕ) (d n most : ℕ) → ((k : ℕ) → k < n → f (d + k) ≤ most) → sum_over f d n ≤ n * most

-- the sums of a span with loads balance: together they come to its loads and its excesses
abbrev pub StatementsBalance : Type 0
StatementsBalance =
    (s : Setting) (h : History) (span : Span) → IsLawful s h → HasLoads s h span
    → retailers_over s h span + remainder_over s h span ≡ load_over s h span + excess_over s h span
