-- Why the sums of a span balance. Assumes nothing.
use Rattle.std.proofs.Common.{◌≡◌, ℕ, ◌+◌, List, map, sum, unwrap_or, sym, ap, ◌∙◌}
use Rattle.std.specs.List.{range_with_len}
use Rattle.rules.specs.Figures.{excess, load, retailer_sum}
use Rattle.rules.specs.History.{History, Setting}
use Rattle.statements.specs.Draws.{HasLoads}
use Rattle.statements.specs.Spans.{span_day_count, sum_over}
use Rattle.statements.specs.Sums.{excess_over, load_over, remainder_on, remainder_over, retailers_over}
use Rattle.statements.specs.declared.statement.Span.{Span}
use Rattle.statements.proofs.DayLoads.{each_loaded, some_load}
use Rattle.statements.proofs.SpanSums.{of_alike}
use Rattle.terms.specs.Limits.{retailers}
use Rattle.rules.specs.Calls.{IsLawful, day_of_date}
use Rattle.rules.proofs.SumsAndRows.{sum_added, sum_swap}
use Rattle.rules.proofs.Balance.{retailers_balance}
use Rattle.rules.specs.FigureLaws.{retailers_sum}

-- sums over days, taken row by row or day by day
by_days : (f : ℕ → ℕ → ℕ) (ks : List ℕ) (d n : ℕ) → sum (map (λ k. sum_over (f k) d n) ks) ≡ sum_over (λ e. sum (map (λ k. f k e) ks)) d n
unfolding sum_over
by_days f ks d n = sum_swap f ks (range_with_len d n)

-- two sums over days are one
both : (f g : ℕ → ℕ) (d n : ℕ) → sum_over f d n + sum_over g d n ≡ sum_over (λ e. f e + g e) d n
unfolding sum_over
both f g d n = sym (sum_added f g (range_with_len d n))

pub balance : (s : Setting) (h : History) (span : Span) → IsLawful s h → HasLoads s h span → retailers_over s h span + remainder_over s h span ≡ load_over s h span + excess_over s h span
balance s h span lawful loaded =
    let d = day_of_date s span.first in
    let n = span_day_count span in
    let load_on : ℕ → ℕ = λ e. unwrap_or (load s h e) 0 in
    ap (λ x. x + remainder_over s h span) (by_days (retailer_sum s h) (range_with_len 1 retailers) d n)
    ∙ both (retailers_sum s h) (remainder_on s h) d n
    ∙ of_alike (λ e. retailers_sum s h e + remainder_on s h e) (λ e. load_on e + excess s h e (load_on e)) d n
    (λ k below. retailers_balance s h (d + k) (load_on (d + k)) lawful (some_load (load s h (d + k)) (each_loaded s h d n loaded k below)))
    ∙ sym (both load_on (λ e. excess s h e (load_on e)) d n)
