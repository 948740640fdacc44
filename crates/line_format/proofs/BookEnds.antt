-- When a book ends. Assumes nothing.
use Rattle.std.proofs.Common.{◌≡◌, ℕ, ◌+◌, ◌-◌, min, Bool, true, false, not, ◌||◌, leb, ltb, Ok, Err, Result, MatchResult, sym, refl, ap, ◌∙◌, arith}
use Rattle.terms.specs.Answers.{Answers}
use Rattle.terms.specs.declared.refusal.Refusal.{Refusal}
use Rattle.std.proofs.lemmas.Bool.Decides.{nat_tests}
use Rattle.calendar.specs.Gregorian.{month_lengths, days_before_month, year_length, days_before_year, is_leap}
use Rattle.calendar.specs.Digits.{is_date, day_number_of}
use Rattle.line_format.specs.Limits.{ends_in_time}

-- the number of 30 December 2099
pub last_end : day_number_of 20991230 ≡ 36157
unfolding day_number_of days_before_year year_length days_before_month month_lengths is_leap
last_end = refl

by_sum : (b : Bool) (n days day sum : ℕ) → Answers (Ok day) b n 4 → sum ≡ min (days + day) 18446744073709551615 → ltb sum 36159 ≡ (not b || leb (n + days - 1) 36157)
by_sum true n days day sum p e = let same : day ≡ n = p in grind (arith, nat_tests)
by_sum false n days day sum p e = absurd p

-- a sum that stops at the largest number, held against the number of days in all
ends_by_sum : (first days day sum : ℕ) → Answers (Ok day) (is_date first) (day_number_of first) 4 → sum ≡ min (days + day) 18446744073709551615 → ltb sum 36159 ≡ ends_in_time first days
unfolding ends_in_time
ends_by_sum first days day sum p e =
    by_sum (is_date first) (day_number_of first) days day sum p e ∙ ap (λ n. not (is_date first) || leb (day_number_of first + days - 1) n) (sym last_end)

unjudged : (b c : Bool) (n : ℕ) (e : Refusal) → Answers {X = ℕ} (Err e) b n 4 → true ≡ (not b || c)
unjudged true c n e p = absurd p
unjudged false c n e p = refl

-- where there is no first date nothing is judged
ends_unknown : (first days : ℕ) (e : Refusal) → Answers {X = ℕ} (Err e) (is_date first) (day_number_of first) 4 → true ≡ ends_in_time first days
unfolding ends_in_time
ends_unknown first days e p =
    unjudged (is_date first) (leb (day_number_of first + days - 1) (day_number_of 20991230)) (day_number_of first) e p

pub ends_either : (first days : ℕ) (r : Result ℕ Refusal) (answer : Bool) → Answers r (is_date first) (day_number_of first) 4 → MatchResult r (λ day. answer ≡ ltb (min (days + day) 18446744073709551615) 36159) (λ e. answer ≡ true) → answer ≡ ends_in_time first days
ends_either first days (Ok day) answer p e = e ∙ ends_by_sum first days day _ p refl
ends_either first days (Err f) answer p e = e ∙ ends_unknown first days f p
