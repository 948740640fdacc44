-- The sums of a statement.
use Rattle.std.specs.Prelude.{◌≡◌, ℕ, ◌-◌, ◌≤◌, map, sum, nat_lt, slice_index, if◌then◌else◌}
use Rattle.std.specs.List.{range_with_len}
use Rattle.std.specs.Option.{unwrap_or}
use Rattle.rules.specs.Figures.{excess, load, remainder, retailer_sum}
use Rattle.rules.specs.History.{History, Setting}
use Rattle.statements.specs.Spans.{sum_over_span}
use Rattle.statements.specs.declared.statement.Span.{Span}
use Rattle.statements.specs.declared.sums.Sums.{Sums}
use Rattle.terms.specs.Limits.{retailers}

-- what the figures of a retailer's points come to over a span
abbrev pub retailer_over : Setting → History → ℕ → Span → ℕ
retailer_over s h k span = sum_over_span s (retailer_sum s h k) span

-- what is left to the host retailer on a day
abbrev pub remainder_on : Setting → History → ℕ → ℕ
remainder_on s h d = remainder s h d (unwrap_or (load s h d) 0)

-- what is left to the host retailer over a span: the remainders of its days added up, none of which an excess
-- of another day lowers
abbrev pub remainder_over : Setting → History → Span → ℕ
remainder_over s h span = sum_over_span s (remainder_on s h) span

-- the sixteen retailers' sums of a span together
abbrev pub retailers_over : Setting → History → Span → ℕ
retailers_over s h span = sum (map (λ k. retailer_over s h k span) (range_with_len 1 retailers))

-- the loads of a span's days added up, and their excesses
abbrev pub load_over : Setting → History → Span → ℕ
load_over s h span = sum_over_span s (λ d. unwrap_or (load s h d) 0) span

abbrev pub excess_over : Setting → History → Span → ℕ
excess_over s h span = sum_over_span s (λ d. excess s h d (unwrap_or (load s h d) 0)) span

-- sums are those of a span
pub record SumsOf (s : Setting) (h : History) (span : Span) (x : Sums) : Type 0 where
  pub retailers : (k : ℕ) → 1 ≤ k → k ≤ retailers → slice_index x.retailers (k - 1) ≡ retailer_over s h k span
  pub remainder : x.remainder ≡ remainder_over s h span

-- the sum at each place: retailer k's at place k - 1, and the host remainder's at place 16
abbrev pub sum_at : Sums → ℕ → ℕ
sum_at x place = if nat_lt place retailers then slice_index x.retailers place else x.remainder
