-- What holds of the daily figures of every history.
use Rattle.std.specs.Prelude.{◌≡◌, ℕ, ◌+◌, ◌-◌, ◌*◌, ◌<◌, ◌≤◌, ◌≢◌, Bool, true, false, List, ◌∷◌, map, is_some, Some, sum, slice_index}
use Rattle.std.specs.List.{range_with_len}
use Rattle.std.specs.Option.{unwrap_or}
use Rattle.estimators.specs.Limits.{last_day, last_point}
use Rattle.allocation.specs.Loads.{largest_gate}
use Rattle.allocation.specs.Sharing.{can_share, shares}
use Rattle.rules.specs.Calls.{IsLawful}
use Rattle.rules.specs.Figures.{estimate, estimates, estimates_sum, excess, figure, figures_sum, generated_figures, generated_sum, is_active, is_estimated, load, missing_count, needs_scaling, remainder, retailer_sum, share_on, supplied_figure, supplied_sum, covered_weights}
use Rattle.rules.specs.History.{History, Setting, covering_reading, covers, degree_day_count, enrolment_of, gate_of, interval_energy}
use Rattle.rules.specs.Readings.{Holds, accepted_readings, are_joined, held_readings}
use Rattle.rules.specs.declared.entry.Enrolment.{Enrolment}
use Rattle.rules.specs.declared.entry.Entry.TheVariants.{Enrolled, GateEntered, IntervalEntered, DegreeDaysEntered, ReadingTaken}
use Rattle.rules.specs.declared.entry.GateDay.{GateDay}
use Rattle.rules.specs.declared.entry.Reading.{Reading}
use Rattle.terms.specs.Limits.{largest_energy, retailers, greatest_figure}

-- The account of a day.

-- a scaled estimate never exceeds its estimate
abbrev pub ScalingOnlyLowers : Type 0
ScalingOnlyLowers =
    (s : Setting) (h : History) (d k : ℕ)
    → slice_index (generated_figures s h d) k ≤ slice_index (estimates s h d) k

-- the account of a day with load n
pub record Balances (s : Setting) (h : History) (d n : ℕ) : Type 0 where
  -- all figures are the supplied and the generated ones
  pub two_kinds : figures_sum s h d ≡ supplied_sum s h d + generated_sum s h d
  -- figures and remainder make up the load and the excess
  pub balance : figures_sum s h d + remainder s h d n ≡ n + excess s h d n
  -- there is never a remainder beside an excess
  pub never_both : 0 < remainder s h d n → 0 < excess s h d n → ⊥

-- each day with a load balances
abbrev pub EachDayBalances : Type 0
EachDayBalances = (s : Setting) (h : History) (d n : ℕ) → load s h d ≡ Some n → Balances s h d n

-- what the day sums of all retailers come to
abbrev pub retailers_sum : Setting → History → (day : ℕ) → ℕ
retailers_sum s h d = sum (map (λ k. retailer_sum s h k d) (range_with_len 1 retailers))

-- the retailers' day sums leave no figure out and count none twice, so that they balance too
pub record RetailersBalance : Type 0 where
  pub all_figures : (s : Setting) (h : History) (d : ℕ) → IsLawful s h → retailers_sum s h d ≡ figures_sum s h d
  pub balance :
      (s : Setting) (h : History) (d n : ℕ)
      → IsLawful s h → load s h d ≡ Some n → retailers_sum s h d + remainder s h d n ≡ n + excess s h d n

-- What a point shows.

-- supplied energy is never rescaled: a covered day shows its reading's share, and no estimator has a part in it
pub record SuppliedIsNeverScaled : Type 0 where
  pub share :
      (s : Setting) (h : History) (p d : ℕ) (r : Reading)
      → covering_reading h p d ≡ Some r → figure s h p d ≡ share_on s h d r
  pub any_estimator :
      (s t : Setting) (h : History) (p d : ℕ)
      → s.unaccounted ≡ t.unaccounted → supplied_figure s h p d ≡ supplied_figure t h p d

-- the estimates of a day are scaled: with what is supplied they exceed its load, and some are above 0
abbrev pub is_scaled : Setting → History → (day : ℕ) → Bool
is_scaled s h d = needs_scaling (supplied_sum s h d) (estimates_sum s h d) (load s h d)

-- what a day shows of a point that no reading covers
pub record EstimatedDaysShown : Type 0 where
  -- the latest estimate, none counting 0
  pub latest_estimate :
      (s : Setting) (h : History) (p d : ℕ)
      → 0 < p → p ≤ s.points → is_estimated h p d ≡ true → is_scaled s h d ≡ false
      → figure s h p d ≡ unwrap_or (estimate s h p d) 0
  -- or its share of what the load leaves beside supplied energy
  pub scaled_estimate :
      (s : Setting) (h : History) (p d : ℕ)
      → is_estimated h p d ≡ true → is_scaled s h d ≡ true
      → figure s h p d ≡ slice_index (shares (unwrap_or (load s h d) 0 - supplied_sum s h d) (estimates s h d)) (p - 1)
  -- nothing until the point is enrolled and before its start day
  pub nothing_before :
      (s : Setting) (h : History) (p d : ℕ)
      → IsLawful s h → 0 < p → is_active h p d ≡ false → figure s h p d ≡ 0

-- Which days stand.

-- a day stands: it has the same load and figures, and the same answers to the questions about it, under either history
pub record SameDay (s : Setting) (h new : History) (d : ℕ) : Type 0 where
  pub load_stands : load s new d ≡ load s h d
  pub figures_stand : (p : ℕ) → figure s new p d ≡ figure s h p d
  pub supplied_stands : supplied_sum s new d ≡ supplied_sum s h d
  pub generated_stands : generated_sum s new d ≡ generated_sum s h d
  pub remainder_stands : (n : ℕ) → remainder s new d n ≡ remainder s h d n
  pub excess_stands : (n : ℕ) → excess s new d n ≡ excess s h d n
  pub missing_stands : missing_count s new d ≡ missing_count s h d
  pub retailers_stand : (k : ℕ) → retailer_sum s new k d ≡ retailer_sum s h k d

-- every day stands
abbrev pub SameSheet : Setting → (h new : History) → Type 0
SameSheet s h new = (d : ℕ) → SameDay s h new d

-- two histories have the same latest entries
pub record SameLatest (h new : History) : Type 0 where
  pub gates : (d : ℕ) → gate_of new d ≡ gate_of h d
  pub intervals : (m d : ℕ) → interval_energy new m d ≡ interval_energy h m d
  pub counts : (d : ℕ) → degree_day_count new d ≡ degree_day_count h d
  pub enrolments : (p : ℕ) → enrolment_of new p ≡ enrolment_of h p

-- histories with the same latest entries make the same sheet where the same readings supply it,
-- and so where they accepted the same readings in the same order
pub record LatestEntriesDecide : Type 0 where
  pub by_coverings :
      (s : Setting) (h new : History)
      → SameLatest h new → ((p d : ℕ) → covering_reading new p d ≡ covering_reading h p d) → SameSheet s h new
  pub by_readings :
      (s : Setting) (h new : History)
      → SameLatest h new → accepted_readings new ≡ accepted_readings h → SameSheet s h new

-- no reading that supplies a figure of day d covers day g too
abbrev pub SharesNoReading : History → (d g : ℕ) → Type 0
SharesNoReading h d g = (p : ℕ) (r : Reading) → covering_reading h p d ≡ Some r → covers r r.point g ≡ false

-- a gate day or an interval energy moves only its day and days joined to it
pub record LoadsMoveJoinedDays : Type 0 where
  pub gate :
      (s : Setting) (h : History) (g d : ℕ) (energies : GateDay)
      → IsLawful s h → (d ≢ g) → are_joined h d g ≡ false → SameDay s h (GateEntered g energies ∷ h) d
  pub interval :
      (s : Setting) (h : History) (g d meter energy : ℕ)
      → IsLawful s h → (d ≢ g) → are_joined h d g ≡ false → SameDay s h (IntervalEntered g meter energy ∷ h) d

-- in any list of entries, days that share no supplying reading with its day stand
pub record LoadsLeaveApartDays : Type 0 where
  pub gate :
      (s : Setting) (h : History) (g d : ℕ) (energies : GateDay)
      → (d ≢ g) → SharesNoReading h d g → SameDay s h (GateEntered g energies ∷ h) d
  pub interval :
      (s : Setting) (h : History) (g d meter energy : ℕ)
      → (d ≢ g) → SharesNoReading h d g → SameDay s h (IntervalEntered g meter energy ∷ h) d

-- a history that differs from another in the load of day g alone
pub record DiffersInLoad (s : Setting) (h new : History) (g : ℕ) : Type 0 where
  pub lawful : IsLawful s new
  pub coverings : (p d : ℕ) → covering_reading new p d ≡ covering_reading h p d
  pub enrolments : (p : ℕ) → enrolment_of new p ≡ enrolment_of h p
  pub counts : (d : ℕ) → degree_day_count new d ≡ degree_day_count h d
  pub holdings : held_readings new ≡ held_readings h
  pub loads : (d : ℕ) → (d ≢ g) → load s new d ≡ load s h d
  pub apart : (d : ℕ) → (d ≢ g) → are_joined h d g ≡ false → SameDay s h new d

-- gate days and interval energies move the load of their day alone
pub record LoadsMoveOneDay : Type 0 where
  pub by_gate :
      (s : Setting) (h : History) (g : ℕ) (energies : GateDay)
      → IsLawful s (GateEntered g energies ∷ h) → DiffersInLoad s h (GateEntered g energies ∷ h) g
  pub by_interval :
      (s : Setting) (h : History) (g meter energy : ℕ)
      → IsLawful s (IntervalEntered g meter energy ∷ h) → DiffersInLoad s h (IntervalEntered g meter energy ∷ h) g

-- a degree-day count moves only its day, and there only estimated points
pub record CountsMoveEstimates : Type 0 where
  pub other_days :
      (s : Setting) (h : History) (g d count : ℕ) → (d ≢ g) → SameDay s h (DegreeDaysEntered g count ∷ h) d
  pub other_points :
      (s : Setting) (h : History) (g p count : ℕ)
      → 0 < p → is_estimated h p g ≡ false → figure s (DegreeDaysEntered g count ∷ h) p g ≡ figure s h p g

-- a reading moves only the days that it covers, and there only its point and estimated points
pub record ReadingsMoveCoveredDays : Type 0 where
  pub other_days :
      (s : Setting) (h : History) (r : Reading) (d : ℕ)
      → covers r r.point d ≡ false → SameDay s h (ReadingTaken r ∷ h) d
  pub other_points :
      (s : Setting) (h : History) (r : Reading) (p d : ℕ)
      → 0 < p → (p ≢ r.point) → is_estimated h p d ≡ false → figure s (ReadingTaken r ∷ h) p d ≡ figure s h p d
  -- no day is uncovered
  pub stays_covered :
      (h : History) (r : Reading) (p d : ℕ)
      → is_some (covering_reading h p d) ≡ true → is_some (covering_reading (ReadingTaken r ∷ h) p d) ≡ true

-- an enrolment moves only days from its start on
abbrev pub EnrolmentsMoveLaterDays : Type 0
EnrolmentsMoveLaterDays =
    (s : Setting) (h : History) (p d : ℕ) (e : Enrolment)
    → IsLawful s (Enrolled p e ∷ h) → d < e.start → SameDay s h (Enrolled p e ∷ h) d

-- How large figures become.

-- no number of a sheet passes its limit, and every held reading can be shared over its days
pub record FiguresKeepLimits : Type 0 where
  -- a share is at most the whole amount, and a row of n at most n times its largest
  pub share_most : (c : ℕ) (ws : List ℕ) (k : ℕ) → 0 < sum ws → slice_index (shares c ws) k ≤ c
  pub sum_bounded :
      (f : ℕ → ℕ) (most a n : ℕ)
      → ((k : ℕ) → a ≤ k → k < a + n → f k ≤ most) → sum (map f (range_with_len a n)) ≤ n * most
  -- a reading that has a day has weight
  pub weights_positive : (s : Setting) (h : History) (r : Reading) → r.start < r.end → 0 < sum (covered_weights s h r)
  -- a held reading names a point of the book, ends after its start and in the book, and keeps within the largest energy
  pub held_within :
      (s : Setting) (h : History) → IsLawful s h → (r : Reading) → Holds h r
      → (1 ≤ r.point) × (r.point ≤ s.points) × (r.start < r.end) × (r.end ≤ s.days) × (r.energy ≤ largest_energy)
  -- supplied figures keep within the largest energy of a reading
  pub share_bounded :
      (s : Setting) (h : History) → IsLawful s h → (p d : ℕ) (r : Reading)
      → covering_reading h p d ≡ Some r → share_on s h d r ≤ largest_energy
  pub supplied_bounded :
      (s : Setting) (h : History) → IsLawful s h → (p d : ℕ)
      → unwrap_or (supplied_figure s h p d) 0 ≤ largest_energy
  pub supplied_sum_bounded :
      (s : Setting) (h : History) → IsLawful s h → s.points ≤ last_point
      → (d : ℕ) → supplied_sum s h d ≤ last_point * largest_energy
  -- and so do all figures where estimates keep within theirs
  pub figure_bounded :
      (s : Setting) (h : History) → IsLawful s h
      → (d : ℕ) → ((p x : ℕ) → estimate s h p d ≡ Some x → x ≤ greatest_figure)
      → (p : ℕ) → figure s h p d ≤ largest_energy
  -- a load keeps within the largest gate energy
  pub load_bounded : (s : Setting) (h : History) → IsLawful s h → (d n : ℕ) → load s h d ≡ Some n → n ≤ largest_gate
  -- in a book of no more days than there can be, each held reading can be shared over its days
  pub reading_shareable :
      (s : Setting) (h : History) → IsLawful s h → s.days ≤ last_day
      → (r : Reading) → Holds h r → can_share largest_gate r.energy (covered_weights s h r) ≡ true
