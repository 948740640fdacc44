-- Days worked by hand, each under a history that a book can have.
use Rattle.std.specs.Prelude.{◌≡◌, ℕ, if◌then◌else◌, [], ◌∷◌, Some, None, ◌==◌}
use Rattle.terms.specs.declared.reading_type.ReadingType.TheVariants.{Actual}
use Rattle.rules.specs.Figures.{excess, figure, generated_sum, load, missing_count, remainder, retailer_sum, supplied_sum}
use Rattle.rules.specs.History.{History, Setting}
use Rattle.rules.specs.declared.entry.Entry.TheVariants.{Enrolled, GateEntered, DegreeDaysEntered, ReadingTaken}

-- a day of four points; 2, 3 and 4 have estimates of 20, 20 and 10 MJ
abbrev pub four_points : Setting
four_points = record {
  first = 8582;
  days = 1;
  points = 4;
  unaccounted = 0;
  places = 1;
  opening = λ p d. if p == 1 then None else if p == 4 then Some 10 else Some 20;
  weather = λ count p d. None;
}

-- all four are enrolled, the day has this load, and a reading supplies this much to point 1
abbrev pub supplied_beside : (load energy : ℕ) → History
supplied_beside n energy =
    ReadingTaken (record { point = 1; start = 0; end = 1; energy = energy; reading_type = Actual })
    ∷ GateEntered 0 (record { energy_in = n; energy_out = 0 })
    ∷ Enrolled 4 (record { retailer = 2; start = 0 })
    ∷ Enrolled 3 (record { retailer = 2; start = 0 })
    ∷ Enrolled 2 (record { retailer = 1; start = 0 })
    ∷ Enrolled 1 (record { retailer = 1; start = 0 }) ∷ []

-- two days of 32 points; point 2 has an estimate of 30 MJ under every degree-day count
abbrev pub two_days : Setting
two_days = record {
  first = 8582;
  days = 2;
  points = 32;
  unaccounted = 0;
  places = 256;
  opening = λ p d. None;
  weather = λ count p d. if p == 2 then Some 30 else None;
}

-- points 1 and 2 are enrolled, the days have loads of 100 and 300 MJ, and 200 MJ are metered at point 1 over both
abbrev pub before_weather : History
before_weather =
    ReadingTaken (record { point = 1; start = 0; end = 2; energy = 200; reading_type = Actual })
    ∷ GateEntered 1 (record { energy_in = 300; energy_out = 0 })
    ∷ GateEntered 0 (record { energy_in = 100; energy_out = 0 })
    ∷ Enrolled 2 (record { retailer = 2; start = 0 })
    ∷ Enrolled 1 (record { retailer = 1; start = 0 }) ∷ []

-- then the weather of both days comes
abbrev pub after_weather : History
after_weather = DegreeDaysEntered 1 500 ∷ DegreeDaysEntered 0 500 ∷ before_weather

-- and a later gate entry of the first day
abbrev pub gate_again : History
gate_again = GateEntered 0 (record { energy_in = 300; energy_out = 0 }) ∷ after_weather

-- a day has this account: its load, what is supplied and generated, remainder, excess and missing count
pub record HasAccount (s : Setting) (h : History) (d n supplied generated left beyond without : ℕ) : Type 0 where
  pub loads : load s h d ≡ Some n
  pub supplies : supplied_sum s h d ≡ supplied
  pub generates : generated_sum s h d ≡ generated
  pub leaves : remainder s h d n ≡ left
  pub exceeds : excess s h d n ≡ beyond
  pub lacks : missing_count s h d ≡ without

-- points 1 to 4 have these figures
pub record HasFigures (h : History) (a b c d : ℕ) : Type 0 where
  pub at_1 : figure four_points h 1 0 ≡ a
  pub at_2 : figure four_points h 2 0 ≡ b
  pub at_3 : figure four_points h 3 0 ≡ c
  pub at_4 : figure four_points h 4 0 ≡ d

-- what the days come to
pub record WorkedDays : Type 0 where
  -- a load of 101 leaves 31 beside 70 supplied, shared over the estimates
  pub scaled : HasFigures (supplied_beside 101 70) 70 12 12 7
  pub scaled_day : HasAccount four_points (supplied_beside 101 70) 0 101 70 31 0 0 0
  -- supplied energy and estimates that equal the load stay as they are
  pub equal : HasFigures (supplied_beside 120 70) 70 20 20 10
  pub equal_day : HasAccount four_points (supplied_beside 120 70) 0 120 70 50 0 0 0
  -- 120 supplied exceed a load of 100 by 20, and nothing is left to share
  pub beyond : HasFigures (supplied_beside 100 120) 120 0 0 0
  pub beyond_day : HasAccount four_points (supplied_beside 100 120) 0 100 120 0 0 20 0
  -- a point without an estimate is missing until the weather comes
  pub missing_first : HasAccount two_days before_weather 0 100 50 0 50 0 1
  pub first_day : HasAccount two_days after_weather 0 100 50 30 20 0 0
  pub second_day : HasAccount two_days after_weather 1 300 150 30 120 0 0
  -- a later gate entry of the first day moves the second too, which a reading joins to it
  pub joined_first : figure two_days gate_again 1 0 ≡ 100
  pub joined_second : figure two_days gate_again 1 1 ≡ 100
  -- retailers' sums
  pub retailer_1 : retailer_sum two_days after_weather 1 1 ≡ 150
  pub retailer_2 : retailer_sum two_days after_weather 2 1 ≡ 30
  pub retailer_3 : retailer_sum two_days after_weather 3 1 ≡ 0
