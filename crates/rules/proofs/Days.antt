-- What the figures of a day are made of, and that nothing else moves them.
use Rattle.std.proofs.Common.{◌≡◌, ℕ, ◌-◌, ◌<◌, ◌≤◌, Bool, true, false, cond, not, ◌&&◌, map, get_or, is_some, Some, sum, count_by, unwrap_or, refl, ap, ◌∙◌, ⊎_elim, arith, List, [], ◌∷◌, None, Option, sym}
use Rattle.std.specs.List.{range_with_len}
use Rattle.std.specs.Option.{option_map, option_or}
use Rattle.std.proofs.lemmas.List.FromFn.{get_or-map-range_with_len, length-map-range_with_len}
use Rattle.std.proofs.lemmas.List.{get_or_past}
use Rattle.std.proofs.lemmas.Bool.{cases_lt, cond-false, cond_both}
use Rattle.allocation.specs.ShareLaws.{share_of_nothing}
use Rattle.allocation.specs.Sharing.{shares}
use Rattle.rules.specs.Figures.{is_active, belongs_to, estimate, counted_estimate, is_estimated, estimates, estimates_sum, needs_scaling, figure, figures_sum, generated_figures, load, missing_count, points_of, retailer_sum, share_on, supplied_figure, supplied_sum, has_begun, estimate_under, weight_on, covered_weights}
use Rattle.rules.specs.History.{History, Setting, covering_reading, enrolment_of, gate_of, interval_energy, covers}
use Rattle.rules.specs.declared.entry.Reading.{Reading}
use Rattle.rules.specs.FigureLaws.{SameDay, SameLatest, SameSheet}
use Rattle.rules.proofs.SumsAndRows.{map_over, mapped_over}
use Rattle.rules.specs.Readings.{accepted_readings}
use Rattle.rules.specs.declared.entry.Entry.TheVariants.{ReadingTaken}
use Rattle.allocation.specs.Loads as loads

-- what a day's figures are made of is the same under either history
pub record SameParts (s : Setting) (h new : History) (d : ℕ) : Type 0 where
  pub loads_same : load s new d ≡ load s h d
  pub supplied_same : (p : ℕ) → supplied_figure s new p d ≡ supplied_figure s h p d
  pub estimated_same : (p : ℕ) → is_estimated new p d ≡ is_estimated h p d
  pub estimate_same : (p : ℕ) → estimate s new p d ≡ estimate s h p d

module _ (s : Setting) (h new : History) (d : ℕ) (same : SameParts s h new d) where
  -- then what is supplied is the same
  pub supplied_sum_same : supplied_sum s new d ≡ supplied_sum s h d
  supplied_sum_same = λ i. sum (map (λ p. unwrap_or (same.supplied_same p i) 0) (points_of s))

  -- and the estimates
  pub estimates_same : estimates s new d ≡ estimates s h d
  estimates_same = λ i. map (λ p. cond (same.estimated_same p i) (unwrap_or (same.estimate_same p i) 0) 0) (points_of s)

  -- and the generated figures
  pub generated_same : generated_figures s new d ≡ generated_figures s h d
  generated_same = λ i.
      cond (needs_scaling (supplied_sum_same i) (sum (estimates_same i)) (same.loads_same i))
      (shares (unwrap_or (same.loads_same i) 0 - supplied_sum_same i) (estimates_same i)) (estimates_same i)

  -- and each figure
  pub figure_same : (p : ℕ) → figure s new p d ≡ figure s h p d
  figure_same p = λ i. unwrap_or (same.supplied_same p i) (get_or (generated_same i) (p - 1) 0)

  -- and what all figures come to
  pub figures_sum_same : figures_sum s new d ≡ figures_sum s h d
  figures_sum_same = λ i. sum (map (λ p. figure_same p i) (points_of s))

  -- and the missing count
  pub missing_same : missing_count s new d ≡ missing_count s h d
  missing_same = λ i. count_by (λ p. same.estimated_same p i && not (is_some (same.estimate_same p i))) (points_of s)

  -- the retailers' sums too where points have the same retailers
  pub retailers_same : ((p : ℕ) → enrolment_of new p ≡ enrolment_of h p)
      → (k : ℕ) → retailer_sum s new k d ≡ retailer_sum s h k d
  retailers_same enrolments k = λ i.
      sum (map (λ p. cond (belongs_to (enrolments p i) k) (figure_same p i) 0) (points_of s))

  -- the day stands where the retailers' sums do
  pub same_day : ((k : ℕ) → retailer_sum s new k d ≡ retailer_sum s h k d) → SameDay s h new d
  same_day retailers = record {
    load_stands = same.loads_same;
    figures_stand = figure_same;
    supplied_stands = supplied_sum_same;
    generated_stands = λ i. sum (generated_same i);
    remainder_stands = λ n i. n - figures_sum_same i;
    excess_stands = λ n i. supplied_sum_same i - n;
    missing_stands = missing_same;
    retailers_stand = retailers;
  }

-- a day whose points have the same retailers stands where it is made of the same
pub same_day_enrolled : (s : Setting) (h new : History) (d : ℕ)
    → ((p : ℕ) → enrolment_of new p ≡ enrolment_of h p) → SameParts s h new d → SameDay s h new d
same_day_enrolled s h new d enrolments same = same_day s h new d same (retailers_same s h new d same enrolments)

-- A day's load and a reading's share.

-- the load depends on the day's gate entry and interval energies
pub load_same : (s : Setting) (h new : History) (d : ℕ)
    → gate_of new d ≡ gate_of h d → ((m : ℕ) → interval_energy new m d ≡ interval_energy h m d)
    → load s new d ≡ load s h d
load_same s h new d gates intervals = λ i.
    option_map
    (λ gate. loads.net_load gate.energy_in gate.energy_out
    (loads.adjusted (sum (map (λ m. intervals m i) (range_with_len 1 32))) s.unaccounted))
    (gates i)

-- a reading's share depends on the loads of the days that it covers
pub share_same : (s : Setting) (h new : History) (d : ℕ) (r : Reading)
    → ((k : ℕ) → r.start ≤ k → k < r.end → load s new k ≡ load s h k) → share_on s new d r ≡ share_on s h d r
share_same s h new d r same = λ i. get_or (shares r.energy (rows i)) (d - r.start) 0
  where
    rows : covered_weights s new r ≡ covered_weights s h r
    rows =
        map_over (weight_on s new) (weight_on s h) r.start (r.end - r.start)
        (λ k low high. ap (λ o. loads.weight (unwrap_or o 0)) (same k low (omega arith)))

-- the supplied figure depends on the covering reading and its share
pub supplied_from : (s : Setting) (h new : History) (p d : ℕ) → covering_reading new p d ≡ covering_reading h p d
    → ((r : Reading) → covering_reading h p d ≡ Some r → share_on s new d r ≡ share_on s h d r)
    → supplied_figure s new p d ≡ supplied_figure s h p d
supplied_from s h new p d cover share =
    ap (option_map (share_on s new d)) cover
    ∙ mapped_over (share_on s new d) (share_on s h d) (covering_reading h p d) share

-- Points that are not estimated.

-- a point that is not estimated has no estimate that counts
counted_none : (s : Setting) (h : History) (p d : ℕ)
    → 0 < p → is_estimated h p d ≡ false → get_or (estimates s h d) (p - 1) 0 ≡ 0
counted_none s h p d above none =
    ⊎_elim
    (λ low.
    get_or-map-range_with_len (λ q. counted_estimate s h q d) 1 s.points (p - 1) p 0 low (omega arith)
    ∙ cond-false (is_estimated h p d) (unwrap_or (estimate s h p d) 0) 0 none)
    (λ high. get_or_past (estimates s h d) (p - 1) 0
    (omega (arith, length-map-range_with_len (λ q. counted_estimate s h q d) 1 s.points)))
    (cases_lt (p - 1) s.points)

-- so its generated figure is 0
pub generated_none : (s : Setting) (h : History) (p d : ℕ)
    → 0 < p → is_estimated h p d ≡ false → get_or (generated_figures s h d) (p - 1) 0 ≡ 0
generated_none s h p d above none =
    let zero_weight = counted_none s h p d above none in
    cond_both (needs_scaling (supplied_sum s h d) (estimates_sum s h d) (load s h d))
    (shares (unwrap_or (load s h d) 0 - supplied_sum s h d) (estimates s h d)) (estimates s h d)
    (λ row. get_or row (p - 1) 0 ≡ 0)
    (λ _. share_of_nothing (unwrap_or (load s h d) 0 - supplied_sum s h d) (estimates s h d) (p - 1) zero_weight)
    (λ _. zero_weight)

-- the figure of a point that is not estimated is the supplied one, else 0
pub figure_supplied : (s : Setting) (h : History) (p d : ℕ)
    → 0 < p → is_estimated h p d ≡ false → figure s h p d ≡ unwrap_or (supplied_figure s h p d) 0
figure_supplied s h p d above none = ap (unwrap_or (supplied_figure s h p d)) (generated_none s h p d above none)

-- a covered day is not estimated
pub covered_not_estimated : (h : History) (p d : ℕ)
    → is_some (covering_reading h p d) ≡ true → is_estimated h p d ≡ false
covered_not_estimated h p d some = ap (λ b. is_active h p d && not b) some ∙ and_false (is_active h p d)
  where
    and_false : (b : Bool) → (b && false) ≡ false
    and_false true = refl
    and_false false = refl

-- The latest entries and the accepted readings in their order decide every day.

-- the first of some readings that covers a point's day
abbrev first_covering : List Reading → ℕ → ℕ → Option Reading
first_covering [] p d = None
first_covering (r ∷ rs) p d = option_or (cond (covers r p d) (Some r) None) (first_covering rs p d)

-- the covering reading is the first accepted one, the newest first
covering_is_first : (h : History) (p d : ℕ) → covering_reading h p d ≡ first_covering (accepted_readings h) p d
covering_is_first [] p d = refl
covering_is_first (ReadingTaken r ∷ h) p d =
    ap (option_or (cond (covers r p d) (Some r) None)) (covering_is_first h p d)
covering_is_first (e ∷ h) p d = covering_is_first h p d

-- histories that accepted the same readings in the same order have the same covering readings
pub covering_by_readings : (h new : History)
    → accepted_readings new ≡ accepted_readings h → (p d : ℕ) → covering_reading new p d ≡ covering_reading h p d
covering_by_readings h new same p d =
    covering_is_first new p d
    ∙ ap (λ rs. first_covering rs p d) same
    ∙ sym (covering_is_first h p d)

module _
    (s : Setting) (h new : History) (latest_same : SameLatest h new)
    (covering_same : (p d : ℕ) → covering_reading new p d ≡ covering_reading h p d) where
  -- histories with the same latest entries and covering readings make each day of the same
  parts_same : (d : ℕ) → SameParts s h new d
  parts_same d = record {
    loads_same = loads d;
    supplied_same = λ p. supplied_from s h new p d (covering_same p d)
        (λ r _. share_same s h new d r (λ k low high. loads k));
    estimated_same = λ p i. has_begun (latest_same.enrolments p i) d && not (is_some (covering_same p d i));
    estimate_same = λ p i. estimate_under s (latest_same.counts d i) p d;
  }
    where
      loads : (k : ℕ) → load s new k ≡ load s h k
      loads k = load_same s h new k (latest_same.gates k) (λ m. latest_same.intervals m k)

  -- so every day stands
  pub same_sheet : SameSheet s h new
  same_sheet d = same_day_enrolled s h new d latest_same.enrolments (parts_same d)
