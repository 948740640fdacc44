-- The refusal of a draw, step by step. Assumes nothing.
use Rattle.std.proofs.Common.{◌≡◌, ℕ, Bool, true, false, cond, eqb, ltb, is_some, Some, None, Ok, Err, Option, Result, sym, refl, ap, ◌∙◌}
use Rattle.std.specs.List.{range_with_len}
use Rattle.std.specs.Option.{option_or}
use Rattle.std.specs.Result.{IsOkAnd}
use Rattle.std.proofs.lemmas.Bool.{cond-true, cond-false, false≢true}
use Rattle.rules.specs.History.{History, Setting}
use Rattle.terms.specs.Refusal.{number_of, date_named}
use Rattle.terms.specs.declared.refusal.Refusal.{Refusal}
use Rattle.book.specs.Days.{AreDaysOf, days_refusal, span_is_backwards, span_leaves_book, span_names_no_date}
use Rattle.book.specs.Replies.{IsJudgedBy}
use Rattle.book.specs.declared.book.Days.{Days}
use Rattle.statements.specs.Draws.{HasLoads, draw_named, draw_refusal, loads_named, loads_refusal}
use Rattle.statements.specs.Spans.{span_day_count, span_days, span_refusal}
use Rattle.statements.specs.declared.statement.Span.{Span}
use Rattle.statements.proofs.SpanLaws.{draw_by_span}
use Rattle.rules.specs.Calls.{date_of_day, first_day_without_load, day_of_date}

-- none of the three refusals of a span names a day
three_name_none : (a b c : Bool) (n : ℕ) (x : Option ℕ) → ◌≡◌ {A = Option ℕ} (cond a (Some 4) (cond b (Some 5) (cond c (Some 10) None))) (Some n) → cond (eqb n 14) x None ≡ None
three_name_none true b c n x e = let is : n ≡ 4 = cc in ap (λ k. cond (eqb k 14) x None) is
three_name_none false true c n x e = let is : n ≡ 5 = cc in ap (λ k. cond (eqb k 14) x None) is
three_name_none false false true n x e = let is : n ≡ 10 = cc in ap (λ k. cond (eqb k 14) x None) is
three_name_none false false false n x e = absurd (false≢true (ap is_some e))

-- a day without a load is refused by 14, or none is there
fourteen : (o : Option ℕ) (n : ℕ) → ◌≡◌ {A = Option ℕ} (cond (is_some o) (Some 14) None) (Some n) → (is_some o ≡ true) × (n ≡ 14)
fourteen None n e = absurd (false≢true (ap is_some e))
fourteen (Some d) n e = (refl, cc)

not_fourteen : (o : Option ℕ) → ◌≡◌ {A = Option ℕ} (cond (is_some o) (Some 14) None) None → o ≡ None
not_fourteen None e = refl
not_fourteen (Some d) e = absurd (false≢true (ap is_some (sym e)))

module _ (s : Setting) (h : History) (span : Span) (wanted places : ℕ) where
  pub refused_by_span : (e : Refusal) → (span_refusal s span ≡ Some (number_of e)) × (date_named e ≡ None) → (draw_refusal s h span wanted places ≡ Some (number_of e)) × (date_named e ≡ draw_named s h span (number_of e))
  unfolding days_refusal
  refused_by_span e judged = (
    draw_by_span s h span wanted places ∙ ap (λ o. option_or o (cond (is_some (first_day_without_load s h (span_days s span))) (Some 14) (cond (ltb places wanted) (Some 15) None))) judged.0,
    judged.1 ∙ sym (three_name_none (span_names_no_date span.first span.last) (span_leaves_book s span.first span.last) (span_is_backwards span.first span.last) (number_of e) (date_of_day s (first_day_without_load s h (span_days s span))) judged.0),
  )

  -- past the span: the loads, and then the list
  past_span : span_refusal s span ≡ None → draw_refusal s h span wanted places ≡ cond (is_some (first_day_without_load s h (span_days s span))) (Some 14) (cond (ltb places wanted) (Some 15) None)
  past_span none = draw_by_span s h span wanted places ∙ ap (λ o. option_or o (cond (is_some (first_day_without_load s h (span_days s span))) (Some 14) (cond (ltb places wanted) (Some 15) None))) none

  module _ (days : Days) (none : span_refusal s span ≡ None) (its : AreDaysOf s span.first span.last days) where
    loads_of_span : loads_refusal s h days.first days.count ≡ loads_refusal s h (day_of_date s span.first) (span_day_count span)
    loads_of_span = λ i. loads_refusal s h (its.first i) (its.count i)

    pub refused_by_load : (e : Refusal)
        → (loads_refusal s h days.first days.count ≡ Some (number_of e)) × (date_named e ≡ loads_named s h days.first days.count (number_of e))
        → (draw_refusal s h span wanted places ≡ Some (number_of e)) × (date_named e ≡ draw_named s h span (number_of e))
    refused_by_load e judged =
        let lacks = fourteen (first_day_without_load s h (span_days s span)) (number_of e) (sym loads_of_span ∙ judged.0) in (
          past_span none ∙ cond-true _ _ _ lacks.0 ∙ ap Some (sym lacks.1),
          judged.1 ∙ (λ i. date_of_day s (first_day_without_load s h (range_with_len (its.first i) (its.count i))))
              ∙ sym (ap (λ k. cond (eqb k 14) (date_of_day s (first_day_without_load s h (span_days s span))) None) lacks.1),
        )

    pub all_loaded : loads_refusal s h days.first days.count ≡ None → HasLoads s h span
    all_loaded judged = not_fourteen (first_day_without_load s h (span_days s span)) (sym loads_of_span ∙ judged)

    -- and then the list decides
    pub by_list : (b : Bool) → ltb places wanted ≡ b → loads_refusal s h days.first days.count ≡ None → draw_refusal s h span wanted places ≡ cond b (Some 15) None
    by_list b is judged = past_span none ∙ cond-false _ _ _ (ap is_some (all_loaded judged)) ∙ ap (λ t. cond t (Some 15) None) is

-- what is not refused, and gives what P holds of
pub judged_ok : {X : Type 0} (P : X → Type 0) (o : Option ℕ) (named : ℕ → Option ℕ) (r : Result X Refusal) → o ≡ None → IsOkAnd r P → IsJudgedBy o named P r
judged_ok P o named (Ok x) none holds = (none, holds)
judged_ok P o named (Err e) none holds = absurd holds
