-- Rows of estimated points, and what scaling makes of them.
use Rattle.std.proofs.Common.{◌≡◌, ℕ, ◌+◌, ◌-◌, ◌*◌, ◌<◌, ◌≤◌, Bool, true, cond, T, leb, ltb, List, length, get_or, set, IfSome, Some, None, Ok, Err, Result, sum, Option, unwrap_or, sym, refl, ap, ◌∙◌, subst, ⊎_elim, mul-le-mul, arith, le→leb}
use Rattle.std.proofs.lemmas.List.{get_or-set_other, get_or-set_same, length-map, map-set}
use Rattle.std.proofs.lemmas.Bool.{and_from, cases_eq, cases_lt, cond-true, le-leb, le-ltb, lt-ltb}
use Rattle.std.specs.Result.{IsOk}
use Rattle.allocation.specs.Loads.{largest_gate}
use Rattle.terms.specs.declared.refusal.Refusal.{Refusal}
use Rattle.allocation.specs.ShareLaws.{length_shares}
use Rattle.allocation.specs.SharingLimits.{largest_estimate, largest_product}
use Rattle.allocation.specs.Sharing.{can_share, shares}
use Rattle.allocation.specs.declared.estimated_point.EstimatedPoint.{EstimatedPoint}
use Rattle.sheet.specs.DayWeights.{load_within}
use Rattle.sheet.specs.Scaling.{estimates_of_points, figures_of_points, note_of, scaled_estimates}
use Rattle.sheet.specs.declared.sheet.DayNote.TheVariants.{NothingKnown, NothingLeft}
use Rattle.sheet.proofs.RowsByPlaces.{handed_figures}
use Rattle.terms.specs.Answers.{IsAcceptedWhen}
use Rattle.allocation.specs.EstimatedPoint.{with_figure}
use Rattle.allocation.specs.Row.{rows_with_shares}
use Rattle.rules.specs.Figures.{needs_scaling}

-- a load can be shared over the estimates of a day's points, where some estimate is above 0
load_shareable : (c n : ℕ) → c ≤ 1000000000 → n ≤ 256 → leb (c * n * 1000000) largest_product ≡ true
load_shareable c n small few = le-leb (c * n * 1000000) largest_product (omega (arith, mul-le-mul small few))

pub shareable : (c : ℕ) (rows : List EstimatedPoint) → c ≤ 1000000000 → length rows ≤ 256 → 0 < sum (estimates_of_points rows) → can_share largest_estimate c (estimates_of_points rows) ≡ true
shareable c rows small few some =
    and_from _ _ (load_shareable c (length (estimates_of_points rows)) small (rw length-map few)) (lt-ltb 0 (sum (estimates_of_points rows)) some)

-- what a load leaves beside supplied energy can be shared over such estimates
pub left_shareable : (load : Option ℕ) (n supplied left total : ℕ) (rows : List EstimatedPoint) → IfSome load (λ x. x ≤ 1000000000) → load ≡ Some n → left ≡ n - supplied
    → length rows ≤ 256 → total ≡ sum (estimates_of_points rows) → 0 < total → can_share largest_estimate left (estimates_of_points rows) ≡ true
left_shareable load n supplied left total rows within is left_is few total_is some =
    let small : n ≤ 1000000000 = subst (λ (o : Option ℕ). IfSome o (λ x. x ≤ 1000000000)) is within in
    shareable left rows (omega (arith, small, left_is)) few (omega (arith, total_is, some))

-- what is accepted by a test that passes is no refusal
pub accepted_ok : {X : Type 0} (r : Result X Refusal) (ok : Bool) (n : ℕ) → ok ≡ true → IsAcceptedWhen r ok n → IsOk r
accepted_ok (Ok x) ok n passes answer = refl
accepted_ok (Err e) ok n passes answer = absurd (rw passes at answer)

-- rows that took their shares show them
pub shared_figures : (c : ℕ) (rows new : List EstimatedPoint) → can_share largest_estimate c (estimates_of_points rows) ≡ true
    → new ≡ cond (can_share largest_estimate c (estimates_of_points rows)) (rows_with_shares with_figure rows (shares c (estimates_of_points rows))) rows → figures_of_points new ≡ shares c (estimates_of_points rows)
shared_figures c rows new can is =
    ap figures_of_points (is ∙ ap (λ t. cond t (rows_with_shares with_figure rows (shares c (estimates_of_points rows))) rows) can)
    ∙ handed_figures rows (shares c (estimates_of_points rows)) (length_shares c (estimates_of_points rows) ∙ length-map rows (λ (row : EstimatedPoint). row.estimate))

-- when a day is scaled_estimates, by numbers
pub exceeds : (a g n : ℕ) → n < a + g → 0 < g → needs_scaling a g (Some n) ≡ true
exceeds a g n above some = and_from _ _ (lt-ltb n (a + g) above) (lt-ltb 0 g some)

pub scaled_by : (load : Option ℕ) (supplied : ℕ) (es figures : List ℕ) → needs_scaling supplied (sum es) load ≡ true → figures ≡ shares (unwrap_or load 0 - supplied) es → figures ≡ scaled_estimates load supplied es
scaled_by load supplied es figures exceeds is = is ∙ ap (λ t. cond t (shares (unwrap_or load 0 - supplied) es) es) (sym exceeds)

-- and what is noted of it then
pub noted_scaled : (load : Option ℕ) (supplied n left : ℕ) (es : List ℕ) → load ≡ Some n → left ≡ n - supplied → n < supplied + sum es → 0 < sum es
    → cond (ltb 0 left) NothingKnown NothingLeft ≡ note_of load supplied es
noted_scaled load supplied n left es is left_is above some =
    ap (λ t. cond t NothingKnown NothingLeft) (test ∙ ap (λ o. ltb supplied (unwrap_or o 0)) (sym is))
    ∙ sym (cond-true (needs_scaling supplied (sum es) load) _ _ (ap (needs_scaling supplied (sum es)) is ∙ exceeds supplied (sum es) n above some))
  where
    test : ltb 0 left ≡ ltb supplied n
    test =
        ⊎_elim
        (λ (more : supplied < n). lt-ltb 0 left (omega arith) ∙ sym (lt-ltb supplied n more))
        (λ (none : n ≤ supplied). le-ltb 0 left (omega arith) ∙ sym (le-ltb supplied n none)) (cases_lt supplied n)

-- one row more is written: what holds of each row written so far, and of the new one, holds of each
pub written_more : (rows : List EstimatedPoint) (i : ℕ) (new : EstimatedPoint) → i < length rows → (P : ℕ → ℕ → ℕ → Type 0)
    → ((k : ℕ) → k < i → P (get_or (figures_of_points rows) k 0) (get_or (estimates_of_points rows) k 0) k) → P new.figure new.estimate i
    → (k : ℕ) → k < i + 1 → P (get_or (figures_of_points (set rows i new)) k 0) (get_or (estimates_of_points (set rows i new)) k 0) k
written_more rows i new inside P before here k below =
    subst (λ fs. P (get_or fs k 0) (get_or (estimates_of_points (set rows i new)) k 0) k) (sym (map-set (λ (row : EstimatedPoint). row.figure) rows i new))
    (subst (λ es. P (get_or (set (figures_of_points rows) i new.figure) k 0) (get_or es k 0) k) (sym (map-set (λ (row : EstimatedPoint). row.estimate) rows i new))
    (⊎_elim
    (λ (same : k ≡ i).
    subst (λ j. P (get_or (set (figures_of_points rows) i new.figure) j 0) (get_or (set (estimates_of_points rows) i new.estimate) j 0) j) (sym same)
    (subst (λ f. P f (get_or (set (estimates_of_points rows) i new.estimate) i 0) i) (sym (get_or-set_same (figures_of_points rows) i new.figure 0 (rw length-map inside)))
    (subst (λ e. P new.figure e i) (sym (get_or-set_same (estimates_of_points rows) i new.estimate 0 (rw length-map inside))) here)))
    (λ (other : k ≡ i → ⊥).
    subst (λ f. P f (get_or (set (estimates_of_points rows) i new.estimate) k 0) k) (sym (get_or-set_other (figures_of_points rows) i k new.figure 0 other))
    (subst (λ e. P (get_or (figures_of_points rows) k 0) e k) (sym (get_or-set_other (estimates_of_points rows) i k new.estimate 0 other)) (before k (omega arith))))
    (cases_eq k i)))

pub load_passes : (o : Option ℕ) → IfSome o (λ n. n ≤ largest_gate) → T (load_within o)
load_passes None small = tt
load_passes (Some n) small = le→leb n largest_gate small
