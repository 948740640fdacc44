-- Sums of what a sheet shows, and the answers to questions about a day.
use Rattle.std.proofs.Common.{◌≡◌, ℕ, ◌+◌, ◌-◌, ◌^◌, ◌≤◌, min, Bool, true, false, cond, map, sum, refl, ap, ◌∙◌, arith, not, ◌&&◌, get_or, is_some, Some, None, Option, unwrap_or, sym}
use Rattle.std.proofs.lemmas.List.FromFn.{map-range_with_len_more}
use Rattle.std.proofs.lemmas.List.Sums.{sum_by_push}
use Rattle.std.specs.List.{range_with_len}
use Rattle.std.proofs.lemmas.Bool.{cond_both}
use Rattle.std.specs.Option.{option_map}
use Rattle.rules.specs.Figures.{estimate, figure, figures_sum, generated_sum, load, retailer_sum, share_on, supplied_sum, belongs_to, is_estimated, generated_figures, missing_count, estimate_under}
use Rattle.rules.specs.History.{History, Setting, enrolment_of, degree_day_count, covering_reading}
use Rattle.rules.specs.declared.entry.Reading.{Reading}
use Rattle.rules.proofs.Bounds.{figure_bounded, sum_bounded}
use Rattle.sheet.specs.Account.{HasBoundedEstimates, account, day_account}
use Rattle.sheet.specs.Sheet.{figure_at, sum_where}
use Rattle.sheet.specs.SheetOfHistory.{ShowsDay, ShowsSupplied}
use Rattle.sheet.specs.declared.account.Account.{Account}
use Rattle.sheet.specs.declared.sheet.Sheet.{Sheet}
use Rattle.sheet.proofs.GeneratedFigures.{supplied_shown}
use Rattle.rules.proofs.Balance.{length_generated, two_kinds}
use Rattle.rules.proofs.Days.{covered_not_estimated, generated_none}
use Rattle.rules.proofs.SumsAndRows.{map_over, row_from_one}
use Rattle.rules.specs.Calls.{IsLawful}

module _ (passes : ℕ → Bool) (b : Sheet) (d : ℕ) where
  pub sum_where_none : sum_where passes b d 0 ≡ 0
  unfolding sum_where
  sum_where_none = refl

  pub sum_where_more : (n : ℕ) → sum_where passes b d (n + 1) ≡ sum_where passes b d n + cond (passes (n + 1)) (figure_at b (n + 1) d) 0
  unfolding sum_where
  sum_where_more n =
      let each : ℕ → ℕ = λ p. cond (passes p) (figure_at b p d) 0 in
      ap sum (map-range_with_len_more each 1 n (n + 1) (omega arith)) ∙ sum_by_push (λ x. x) (map each (range_with_len 1 n)) (each (n + 1))

  -- the figures before point p, and its own
  sum_where_with : (p : ℕ) → 1 ≤ p → sum_where passes b d (p + 1 - 1) ≡ sum_where passes b d (p - 1) + cond (passes p) (figure_at b p d) 0
  sum_where_with p low =
      let next : p + 1 - 1 ≡ p - 1 + 1 = omega arith in
      let here : p - 1 + 1 ≡ p = omega arith in
      ap (sum_where passes b d) next ∙ sum_where_more (p - 1) ∙ ap (λ q. sum_where passes b d (p - 1) + cond (passes q) (figure_at b q d) 0) here

  -- one more figure passes, up to the largest number
  pub sum_where_step : (p total : ℕ) → 1 ≤ p → passes p ≡ true → total ≡ min (sum_where passes b d (p - 1)) (2 ^ 64 - 1) → min (total + figure_at b p d) (2 ^ 64 - 1) ≡ min (sum_where passes b d (p + 1 - 1)) (2 ^ 64 - 1)
  sum_where_step p total low passed so_far =
      let more : sum_where passes b d (p + 1 - 1) ≡ sum_where passes b d (p - 1) + figure_at b p d =
      sum_where_with p low ∙ ap (λ t. sum_where passes b d (p - 1) + cond t (figure_at b p d) 0) passed in
      omega (arith, more, so_far)

  pub sum_where_skip : (p total : ℕ) → 1 ≤ p → passes p ≡ false → total ≡ min (sum_where passes b d (p - 1)) (2 ^ 64 - 1) → total ≡ min (sum_where passes b d (p + 1 - 1)) (2 ^ 64 - 1)
  sum_where_skip p total low fails so_far =
      let same : sum_where passes b d (p + 1 - 1) ≡ sum_where passes b d (p - 1) =
      sum_where_with p low ∙ ap (λ t. sum_where passes b d (p - 1) + cond t (figure_at b p d) 0) fails ∙ omega arith in
      omega (arith, same, so_far)

-- an estimated point has no estimate on a day
abbrev pub lacks : Setting → History → ℕ → ℕ → Bool
lacks s h d p = is_estimated h p d && not (is_some (estimate s h p d))

-- the latest estimates keep within the estimator's limit
estimate_limited : (s : Setting) (h : History) → HasBoundedEstimates s → (d p x : ℕ) → estimate s h p d ≡ Some x → x ≤ 1000000
estimate_limited s h limited d p x = go (degree_day_count h d)
  where
    go : (o : Option ℕ) → estimate_under s o p d ≡ Some x → x ≤ 1000000
    go None is = limited.0 p (d + 1) x is
    go (Some count) is = limited.1 count p (d + 1) x is

-- what a day's generated figures come to, where a sheet shows the day
generated_shown : (s : Setting) (h : History) (b : Sheet) (d : ℕ) → b.points ≡ s.points → ShowsDay s h b d → sum_where (λ p. not (is_some (covering_reading h p d))) b d b.points ≡ generated_sum s h d
unfolding sum_where
generated_shown s h b d many shows =
    ap (λ n. sum (map (λ p. cond (not (is_some (covering_reading h p d))) (figure_at b p d) 0) (range_with_len 1 n))) many
    ∙ ap sum (map_over (λ p. cond (not (is_some (covering_reading h p d))) (figure_at b p d) 0) (λ p. get_or (generated_figures s h d) (p - 1) 0) 1 s.points
    (λ p low high. go p low (omega arith) (covering_reading h p d) refl))
    ∙ ap sum (row_from_one (generated_figures s h d) s.points (length_generated s h d))
  where
    go : (p : ℕ) → 1 ≤ p → p ≤ s.points → (o : Option Reading) → covering_reading h p d ≡ o → cond (not (is_some (covering_reading h p d))) (figure_at b p d) 0 ≡ get_or (generated_figures s h d) (p - 1) 0
    go p low high None e =
        ap (λ o. cond (not (is_some o)) (figure_at b p d) 0) e ∙ shows p low high ∙ ap (λ o. unwrap_or (option_map (share_on s h d) o) (get_or (generated_figures s h d) (p - 1) 0)) e
    go p low high (Some r) e =
        ap (λ o. cond (not (is_some o)) (figure_at b p d) 0) e ∙ sym (generated_none s h p d low (covered_not_estimated h p d (ap is_some e)))

-- and a retailer's
retailer_shown : (s : Setting) (h : History) (b : Sheet) (d k : ℕ) → b.points ≡ s.points → ShowsDay s h b d → sum_where (λ p. belongs_to (enrolment_of h p) k) b d b.points ≡ retailer_sum s h k d
unfolding sum_where
retailer_shown s h b d k many shows =
    ap (λ n. sum (map (λ p. cond (belongs_to (enrolment_of h p) k) (figure_at b p d) 0) (range_with_len 1 n))) many
    ∙ ap sum (map_over (λ p. cond (belongs_to (enrolment_of h p) k) (figure_at b p d) 0) (λ p. cond (belongs_to (enrolment_of h p) k) (figure s h p d) 0) 1 s.points
    (λ p low high. ap (λ x. cond (belongs_to (enrolment_of h p) k) x 0) (shows p low (omega arith))))

module _ (s : Setting) (h : History) (lawful : IsLawful s h) (limited : HasBoundedEstimates s) (few : s.points ≤ 256) (d : ℕ) where
  -- no sum of a day's figures comes near the largest number
  figures_limited : figures_sum s h d ≤ 2560000000
  figures_limited =
      omega (arith, sum_bounded (λ p. figure s h p d) 10000000 1 s.points (λ p low high. figure_bounded s h lawful d (estimate_limited s h limited d) p))

  retailer_limited : (k : ℕ) → retailer_sum s h k d ≤ 2560000000
  retailer_limited k =
      omega (
        arith,
        sum_bounded (λ p. cond (belongs_to (enrolment_of h p) k) (figure s h p d) 0) 10000000 1 s.points
            (λ p low high. cond_both (belongs_to (enrolment_of h p) k) (figure s h p d) 0 (λ (x : ℕ). x ≤ 10000000)
            (λ _. figure_bounded s h lawful d (estimate_limited s h limited d) p) (λ _. omega arith)),
      )

  pub retailer_answered : (b : Sheet) → b.points ≡ s.points → ShowsDay s h b d → (k r : ℕ) → r ≡ min (sum_where (λ p. belongs_to (enrolment_of h p) k) b d b.points) (2 ^ 64 - 1) → r ≡ retailer_sum s h k d
  retailer_answered b many shows k r is = omega (arith, retailer_shown s h b d k many shows, retailer_limited k)

  -- the account of a day with a load, from the sums that a sheet shows
  pub account_answered : (b : Sheet) → b.points ≡ s.points → ShowsDay s h b d → ShowsSupplied s h b d → (n a g m : ℕ) → load s h d ≡ Some n
      → a ≡ min (sum_where (λ p. is_some (covering_reading h p d)) b d b.points) (2 ^ 64 - 1) → g ≡ min (sum_where (λ p. not (is_some (covering_reading h p d))) b d b.points) (2 ^ 64 - 1) → m ≡ missing_count s h d
      → (f : Account) → f ≡ record { load = n; supplied = a; generated = g; remainder = n - min (a + g) (2 ^ 64 - 1); excess = a - n; missing = m } → Some f ≡ day_account s h d
  account_answered b many shows shows_supplied n a g m loaded a_is g_is m_is f f_is =
      ap Some f_is ∙ (λ i. Some (record { load = n; supplied = supplied i; generated = made i; remainder = left i; excess = supplied i - n; missing = m_is i })) ∙ ap (option_map (account s h d)) (sym loaded)
    where
      supplied : a ≡ supplied_sum s h d
      supplied = omega (arith, supplied_shown s h b d many shows_supplied, two_kinds s h d, figures_limited)

      made : g ≡ generated_sum s h d
      made = omega (arith, generated_shown s h b d many shows, two_kinds s h d, figures_limited)

      left : n - min (a + g) (2 ^ 64 - 1) ≡ n - figures_sum s h d
      left = omega (arith, supplied, made, two_kinds s h d, figures_limited)
