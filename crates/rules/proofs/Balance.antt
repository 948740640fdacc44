-- Why each day balances, and what it shows of a point.
use Rattle.std.proofs.Common.{◌≡◌, ℕ, ◌+◌, ◌-◌, ◌<◌, ◌≤◌, Bool, true, false, ltb, ◌⊎◌, map, length, get_or, is_some, Some, None, sum, Option, unwrap_or, sym, refl, ap, ◌∙◌, subst, inl, inr, ⊎_elim, arith, cond, ◌&&◌, eqb, leb, [], ◌∷◌, not}
use Rattle.std.specs.List.{range_with_len}
use Rattle.std.specs.Option.{option_map, option_or}
use Rattle.std.proofs.lemmas.List.FromFn.{length-map-range_with_len, get_or-map-range_with_len}
use Rattle.std.proofs.lemmas.Bool.{and_cases, and_parts, cond_both, cond-false, cond-true, false≢true, ltb-false, ltb-true, leb-true, not-false, not-true, true≢false}
use Rattle.allocation.specs.ShareLaws.{length_shares, share_within, sum_shares}
use Rattle.allocation.specs.Sharing.{shares}
use Rattle.rules.specs.Figures.{counted_estimate, estimates, estimates_sum, needs_scaling, figure, figures_sum, generated_figures, generated_sum, interval_total, load, points_of, share_on, supplied_figure, supplied_sum, has_begun, belongs_to, excess, remainder, is_active, estimate, is_estimated}
use Rattle.rules.specs.History.{History, Setting, covering_reading, gate_of, enrolment_of}
use Rattle.rules.specs.declared.entry.Reading.{Reading}
use Rattle.rules.specs.FigureLaws.{Balances, retailers_sum, is_scaled}
use Rattle.rules.proofs.Days.{covered_not_estimated, generated_none}
use Rattle.rules.proofs.SumsAndRows.{map_over, row_from_one, sum_added, sum_once, sum_swap, sum_zeros}
use Rattle.rules.specs.Calls.{IsLawful, is_between, is_beyond_limits, entry_of}
use Rattle.rules.specs.declared.call.Call.{Call}
use Rattle.rules.specs.declared.call.Call.TheVariants.{Enrol}
use Rattle.rules.specs.declared.entry.Enrolment.{Enrolment}
use Rattle.rules.specs.declared.entry.Entry.{Entry}
use Rattle.rules.specs.declared.entry.Entry.TheVariants.{Enrolled}
use Rattle.rules.proofs.AcceptedEntries.{accepted}
use Rattle.rules.proofs.MovedDays.{figure_before}
use Rattle.allocation.specs.Loads as loads
use Rattle.terms.specs.Limits.{retailers}

-- where estimates are scaled, the load is below supplied energy and estimates together, and some estimate is above 0
pub exceeded_means : (a g : ℕ) (o : Option ℕ) → needs_scaling a g o ≡ true → (unwrap_or o 0 < a + g) × (0 < g)
exceeded_means a g None e = absurd (false≢true e)
exceeded_means a g (Some n) e =
    let both = and_parts (ltb n (a + g)) (ltb 0 g) e in
    (ltb-true n (a + g) both.0, ltb-true 0 g both.1)

-- a scaled estimate never exceeds its estimate
pub scaling_only_lowers : (s : Setting) (h : History) (d k : ℕ)
    → get_or (generated_figures s h d) k 0 ≤ get_or (estimates s h d) k 0
scaling_only_lowers s h d k =
    cond_both (needs_scaling (supplied_sum s h d) (estimates_sum s h d) (load s h d))
    (shares (unwrap_or (load s h d) 0 - supplied_sum s h d) (estimates s h d)) (estimates s h d)
    (λ row. get_or row k 0 ≤ get_or (estimates s h d) k 0)
    (λ scaled.
    let means = exceeded_means (supplied_sum s h d) (estimates_sum s h d) (load s h d) scaled in
    share_within (unwrap_or (load s h d) 0 - supplied_sum s h d) (estimates s h d) k means.1 (omega (arith, means.0)))
    (λ _. omega arith)

-- each point of a day has one generated figure
pub length_generated : (s : Setting) (h : History) (d : ℕ) → length (generated_figures s h d) ≡ s.points
length_generated s h d =
    let all = length-map-range_with_len (λ p. counted_estimate s h p d) 1 s.points in
    cond_both (needs_scaling (supplied_sum s h d) (estimates_sum s h d) (load s h d))
    (shares (unwrap_or (load s h d) 0 - supplied_sum s h d) (estimates s h d)) (estimates s h d)
    (λ row. length row ≡ s.points)
    (λ _. length_shares (unwrap_or (load s h d) 0 - supplied_sum s h d) (estimates s h d) ∙ all) (λ _. all)

-- a figure is what is supplied and what is generated, one of which is 0
pub figure_parts : (s : Setting) (h : History) (p d : ℕ)
    → 0 < p → figure s h p d ≡ unwrap_or (supplied_figure s h p d) 0 + get_or (generated_figures s h d) (p - 1) 0
figure_parts s h p d above = go (covering_reading h p d) refl
  where
    go : (o : Option Reading)
        → covering_reading h p d ≡ o
        → unwrap_or (supplied_figure s h p d) (get_or (generated_figures s h d) (p - 1) 0)
        ≡ unwrap_or (supplied_figure s h p d) 0 + get_or (generated_figures s h d) (p - 1) 0
    go None e =
        rw e (omega arith)
    go (Some r) e =
        let none = generated_none s h p d above (covered_not_estimated h p d (ap is_some e)) in
        rw (e, none) (omega arith)

-- all figures are the supplied and the generated ones
pub two_kinds : (s : Setting) (h : History) (d : ℕ) → figures_sum s h d ≡ supplied_sum s h d + generated_sum s h d
two_kinds s h d =
    ap sum (map_over (λ p. figure s h p d)
    (λ p. unwrap_or (supplied_figure s h p d) 0 + get_or (generated_figures s h d) (p - 1) 0) 1 s.points
    (λ p low high. figure_parts s h p d low))
    ∙ sum_added (λ p. unwrap_or (supplied_figure s h p d) 0) (λ p. get_or (generated_figures s h d) (p - 1) 0)
    (points_of s)
    ∙ ap (λ row. supplied_sum s h d + sum row)
    (row_from_one (generated_figures s h d) s.points (length_generated s h d))

-- a day of supplied sum a, estimates' sum g, load n and generated sum made, where estimates are scaled as b says
account : (a g n made : ℕ) (b : Bool)
    → (b ≡ true → (n < a + g) × (made ≡ n - a)) → (b ≡ false → ((a + g ≤ n) ⊎ (g ≤ 0)) × (made ≡ g))
    → ((a + made) + (n - (a + made)) ≡ n + (a - n)) × (0 < n - (a + made) → 0 < a - n → ⊥)
account a g n made true scaled kept =
    let (above, met) = scaled refl in
    (omega (arith, above, met), λ r x. omega (arith, above, met))
account a g n made false scaled kept =
    let (below, met) = kept refl in
    ⊎_elim (λ l. (omega (arith, met), λ r x. omega (arith, met)))
    (λ l. (omega (arith, met), λ r x. omega (arith, met))) below

-- where estimates are scaled they come to what the load leaves beside supplied energy
pub generated_scaled : (s : Setting) (h : History) (d : ℕ)
    → needs_scaling (supplied_sum s h d) (estimates_sum s h d) (load s h d) ≡ true
    → generated_sum s h d ≡ unwrap_or (load s h d) 0 - supplied_sum s h d
generated_scaled s h d scaled =
    let means = exceeded_means (supplied_sum s h d) (estimates_sum s h d) (load s h d) scaled in
    ap sum (cond-true (needs_scaling (supplied_sum s h d) (estimates_sum s h d) (load s h d))
    (shares (unwrap_or (load s h d) 0 - supplied_sum s h d) (estimates s h d)) (estimates s h d) scaled)
    ∙ sum_shares (unwrap_or (load s h d) 0 - supplied_sum s h d) (estimates s h d) means.1

-- where they are not they stand
pub generated_kept : (s : Setting) (h : History) (d : ℕ)
    → needs_scaling (supplied_sum s h d) (estimates_sum s h d) (load s h d) ≡ false
    → generated_sum s h d ≡ estimates_sum s h d
generated_kept s h d kept =
    ap sum (cond-false (needs_scaling (supplied_sum s h d) (estimates_sum s h d) (load s h d))
    (shares (unwrap_or (load s h d) 0 - supplied_sum s h d) (estimates s h d)) (estimates s h d) kept)

-- each day with a load balances
pub balances : (s : Setting) (h : History) (d n : ℕ) → load s h d ≡ Some n → Balances s h d n
balances s h d n loaded =
    let kinds = two_kinds s h d in
    let sums =
    account (supplied_sum s h d) (estimates_sum s h d) n (generated_sum s h d)
    (needs_scaling (supplied_sum s h d) (estimates_sum s h d) (load s h d))
    (λ scaled. (
      above s h d n loaded scaled,
      generated_scaled s h d scaled ∙ ap (λ o. unwrap_or o 0 - supplied_sum s h d) loaded,
    ))
    (λ kept. (below s h d n loaded kept, generated_kept s h d kept)) in
    record {
      two_kinds = kinds;
      balance = subst (λ f. f + (n - f) ≡ n + (supplied_sum s h d - n)) (sym kinds) sums.0;
      never_both = subst (λ f. 0 < n - f → 0 < supplied_sum s h d - n → ⊥) (sym kinds) sums.1;
    }
  where
    above : (s : Setting) (h : History) (d n : ℕ)
        → load s h d ≡ Some n → needs_scaling (supplied_sum s h d) (estimates_sum s h d) (load s h d) ≡ true
        → n < supplied_sum s h d + estimates_sum s h d
    above s h d n loaded scaled =
        subst (λ o. unwrap_or o 0 < supplied_sum s h d + estimates_sum s h d) loaded
        (exceeded_means (supplied_sum s h d) (estimates_sum s h d) (load s h d) scaled).0

    below : (s : Setting) (h : History) (d n : ℕ)
        → load s h d ≡ Some n → needs_scaling (supplied_sum s h d) (estimates_sum s h d) (load s h d) ≡ false
        → (supplied_sum s h d + estimates_sum s h d ≤ n) ⊎ (estimates_sum s h d ≤ 0)
    below s h d n loaded kept =
        ⊎_elim (λ l. inl (ltb-false n (supplied_sum s h d + estimates_sum s h d) l))
        (λ l. inr (ltb-false 0 (estimates_sum s h d) l))
        (and_cases (ltb n (supplied_sum s h d + estimates_sum s h d)) (ltb 0 (estimates_sum s h d))
        (sym (ap (needs_scaling (supplied_sum s h d) (estimates_sum s h d)) loaded) ∙ kept))

-- Supplied energy.

-- a covered day shows its reading's share
pub supplied_shows : (s : Setting) (h : History) (p d : ℕ) (r : Reading)
    → covering_reading h p d ≡ Some r → figure s h p d ≡ share_on s h d r
supplied_shows s h p d r cover =
    ap (λ o. unwrap_or (option_map (share_on s h d) o) (get_or (generated_figures s h d) (p - 1) 0)) cover

-- supplied figures depend on the opening by its unaccounted-for value alone
pub supplied_any_estimator : (s t : Setting) (h : History) (p d : ℕ)
    → s.unaccounted ≡ t.unaccounted → supplied_figure s h p d ≡ supplied_figure t h p d
supplied_any_estimator s t h p d same = λ i.
    option_map
    (λ r.
    get_or (shares r.energy (map (weighed i) (range_with_len r.start (r.end - r.start)))) (d - r.start) 0)
    (covering_reading h p d)
  where
    loaded : (i : 𝕀) → ℕ → Option ℕ
    loaded i k =
        option_map
        (λ gate. loads.net_load gate.energy_in gate.energy_out (loads.adjusted (interval_total h k) (same i)))
        (gate_of h k)

    weighed : (i : 𝕀) → ℕ → ℕ
    weighed i k = loads.weight (unwrap_or (loaded i k) 0)

-- The retailers' sums leave no figure out and count none twice.

-- an enrolment, where there is one, is with a retailer of the area
abbrev pub with_retailer : Option Enrolment → Bool
with_retailer None = true
with_retailer (Some e) = is_between 1 retailers e.retailer

-- the same of what an entry enrols
abbrev entry_retailer : Option Entry → Bool
entry_retailer (Some (Enrolled point enrolment)) = with_retailer (Some enrolment)
entry_retailer o = true

-- a call within its limits enrols with a retailer of the area
within_limits : (s : Setting) (c : Call) → is_beyond_limits s c ≡ false → entry_retailer (entry_of s c) ≡ true
within_limits s (Enrol point retailer start) e =
    (and_parts (is_between 1 s.points point) (is_between 1 retailers retailer)
    (not-false (is_between 1 s.points point && is_between 1 retailers retailer) e)).1
within_limits s c e = refl

-- of two enrolments, both with a retailer of the area, the one taken is too
either_retailer : (b : Bool) (e : Enrolment) (o : Option Enrolment)
    → with_retailer (Some e) ≡ true → with_retailer o ≡ true
    → with_retailer (option_or (cond b (Some e) None) o) ≡ true
either_retailer true e o here later = here
either_retailer false e o here later = later

-- every enrolment of a book is with a retailer of the area
pub enrolled_with_retailer : (s : Setting) (h : History) (p : ℕ)
    → IsLawful s h → with_retailer (enrolment_of h p) ≡ true
enrolled_with_retailer s [] p lawful = refl
enrolled_with_retailer s (Enrolled q e ∷ h) p lawful =
    let c = lawful.1.0 in
    let limits : with_retailer (Some e) ≡ true =
    ap entry_retailer (sym lawful.1.2) ∙ within_limits s c (accepted s h c lawful.1.1).0 in
    either_retailer (eqb q p) e (enrolment_of h p) limits (enrolled_with_retailer s h p lawful.0)
enrolled_with_retailer s (e ∷ h) p lawful = enrolled_with_retailer s h p lawful.0

-- a figure is counted with one retailer, or is 0
one_retailer : (o : Option Enrolment) (f : ℕ)
    → with_retailer o ≡ true → (o ≡ None → f ≡ 0)
    → sum (map (λ k. cond (belongs_to o k) f 0) (range_with_len 1 retailers)) ≡ f
one_retailer None f with_one none = sum_zeros (range_with_len 1 retailers) ∙ sym (none refl)
one_retailer (Some e) f with_one none =
    let limits = and_parts (leb 1 e.retailer) (leb e.retailer retailers) with_one in
    let low = leb-true 1 e.retailer limits.0 in
    let high = leb-true e.retailer retailers limits.1 in
    sum_once 1 retailers e.retailer f low (omega (arith, high))

-- the retailers' day sums come to all figures
pub retailers_all : (s : Setting) (h : History) (d : ℕ) → IsLawful s h → retailers_sum s h d ≡ figures_sum s h d
retailers_all s h d lawful =
    sum_swap (λ k p. cond (belongs_to (enrolment_of h p) k) (figure s h p d) 0) (range_with_len 1 retailers)
    (points_of s)
    ∙ ap sum (map_over
    (λ p. sum (map (λ k. cond (belongs_to (enrolment_of h p) k) (figure s h p d) 0) (range_with_len 1 retailers)))
    (λ p. figure s h p d) 1 s.points
    (λ p low high.
    one_retailer (enrolment_of h p) (figure s h p d) (enrolled_with_retailer s h p lawful)
    (λ none. figure_before s h p d lawful low (ap (λ o. has_begun o d) none))))

-- so they balance with the remainder
pub retailers_balance : (s : Setting) (h : History) (d n : ℕ)
    → IsLawful s h → load s h d ≡ Some n → retailers_sum s h d + remainder s h d n ≡ n + excess s h d n
retailers_balance s h d n lawful loaded =
    ap (λ f. f + remainder s h d n) (retailers_all s h d lawful)
    ∙ (balances s h d n loaded).balance

-- A point that no reading covers.

-- where no reading covers, the other value is taken
nothing_supplied : (f : Reading → ℕ) (o : Option Reading) (x : ℕ)
    → is_some o ≡ false → unwrap_or (option_map f o) x ≡ x
nothing_supplied f None x none = refl
nothing_supplied f (Some r) x none = absurd (true≢false none)

-- an estimated point shows its generated figure
pub figure_generated : (s : Setting) (h : History) (p d : ℕ)
    → is_estimated h p d ≡ true → figure s h p d ≡ get_or (generated_figures s h d) (p - 1) 0
figure_generated s h p d one =
    nothing_supplied (share_on s h d) (covering_reading h p d) (get_or (generated_figures s h d) (p - 1) 0)
    (not-true (is_some (covering_reading h p d))
    (and_parts (is_active h p d) (not (is_some (covering_reading h p d))) one).1)

-- where estimates are not scaled, an estimated point shows its estimate, none counting 0
pub shows_estimate : (s : Setting) (h : History) (p d : ℕ)
    → 0 < p → p ≤ s.points → is_estimated h p d ≡ true → is_scaled s h d ≡ false
    → figure s h p d ≡ unwrap_or (estimate s h p d) 0
shows_estimate s h p d low high one kept =
    figure_generated s h p d one
    ∙ ap (λ row. get_or row (p - 1) 0)
    (cond-false (is_scaled s h d) (shares (unwrap_or (load s h d) 0 - supplied_sum s h d) (estimates s h d))
    (estimates s h d) kept)
    ∙ get_or-map-range_with_len (λ q. counted_estimate s h q d) 1 s.points (p - 1) p 0 (omega arith) (omega arith)
    ∙ cond-true (is_estimated h p d) (unwrap_or (estimate s h p d) 0) 0 one

-- where they are scaled, it shows its share of what the load leaves
pub shows_share : (s : Setting) (h : History) (p d : ℕ) → is_estimated h p d ≡ true → is_scaled s h d ≡ true
    → figure s h p d ≡ get_or (shares (unwrap_or (load s h d) 0 - supplied_sum s h d) (estimates s h d)) (p - 1) 0
shows_share s h p d one scaled =
    figure_generated s h p d one
    ∙ ap (λ row. get_or row (p - 1) 0)
    (cond-true (is_scaled s h d) (shares (unwrap_or (load s h d) 0 - supplied_sum s h d) (estimates s h d))
    (estimates s h d) scaled)
