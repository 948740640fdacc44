-- In a book that follows a history no sum comes near the largest. Assumes nothing.
use Rattle.std.proofs.Common.{◌≡◌, ℕ, ◌+◌, ◌-◌, ◌≤◌, cond, Some, None, Option, unwrap_or, refl, arith}
use Rattle.std.proofs.lemmas.Bool.{cond_both}
use Rattle.rules.specs.Figures.{estimate, figure, figures_sum, load, retailer_sum, belongs_to, estimate_under}
use Rattle.rules.specs.History.{enrolment_of, degree_day_count}
use Rattle.rules.proofs.Bounds.{figure_bounded, load_bounded, sum_bounded}
use Rattle.book.specs.Book.{IsBookOf}
use Rattle.book.specs.Case.{Case}
use Rattle.estimators.specs.Meaning.{Meanings}
use Rattle.book.specs.declared.book.Book.{Book}
use Rattle.statements.specs.Spans.{sum_over}
use Rattle.statements.specs.Sums.{remainder_on}
use Rattle.statements.proofs.SpanSums.{at_most}
use Rattle.statements.specs.Limits.{largest_statement_sum}

module _ {c : Case} {b : Book} {m : Meanings} (f : IsBookOf c b m) where
  few_points : c.setting.points ≤ 256
  few_points = omega (arith, f.figures.points, b.sheet.few_points)

  pub few_days : c.setting.days ≤ 400
  few_days = omega (arith, f.figures.days, b.sheet.few_days)

  -- estimates keep within their limit
  estimate_limited : (d p x : ℕ) → estimate c.setting c.history p d ≡ Some x → x ≤ 1000000
  estimate_limited d p x is = go (degree_day_count c.history d) is
    where
      go : (o : Option ℕ) → estimate_under c.setting o p d ≡ Some x → x ≤ 1000000
      go None is = f.limited.0 p (d + 1) x is
      go (Some count) is = f.limited.1 count p (d + 1) x is

  retailer_limited : (k d : ℕ) → retailer_sum c.setting c.history k d ≤ 2560000000
  retailer_limited k d =
      omega (
        arith,
        few_points,
        sum_bounded (λ p. cond (belongs_to (enrolment_of c.history p) k) (figure c.setting c.history p d) 0) 10000000 1 c.setting.points
            (λ p low high. cond_both (belongs_to (enrolment_of c.history p) k) (figure c.setting c.history p d) 0 (λ (x : ℕ). x ≤ 10000000)
            (λ _. figure_bounded c.setting c.history f.lawful d (estimate_limited d) p) (λ _. omega arith)),
      )

  remainder_limited : (d : ℕ) → remainder_on c.setting c.history d ≤ 2560000000
  remainder_limited d = go (load c.setting c.history d) refl
    where
      go : (o : Option ℕ) → load c.setting c.history d ≡ o → unwrap_or o 0 - figures_sum c.setting c.history d ≤ 2560000000
      go None is = omega arith
      go (Some n) is = omega (arith, load_bounded c.setting c.history f.lawful d n is)

  -- a sum over days of the book of numbers that keep this limit
  over_limited : (g : ℕ → ℕ) (d n : ℕ) → ((k : ℕ) → g k ≤ 2560000000) → d + n ≤ c.setting.days → sum_over g d n ≤ largest_statement_sum
  over_limited g d n each within =
      let most = at_most g d n 2560000000 (λ k below. each (d + k)) in
      omega (arith, most, few_days)

  pub retailer_counts : (k d n : ℕ) → d + n ≤ c.setting.days → sum_over (retailer_sum c.setting c.history k) d n ≤ largest_statement_sum
  retailer_counts k d n within = over_limited (retailer_sum c.setting c.history k) d n (retailer_limited k) within

  pub remainder_counts : (d n : ℕ) → d + n ≤ c.setting.days → sum_over (remainder_on c.setting c.history) d n ≤ largest_statement_sum
  remainder_counts d n within = over_limited (remainder_on c.setting c.history) d n remainder_limited within
