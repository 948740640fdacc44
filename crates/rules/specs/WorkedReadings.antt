-- One book and its readings, worked by hand: each refusal that a reading can meet.
use Rattle.std.specs.Prelude.{◌≡◌, ℕ, [], ◌∷◌, ℤ, pos, negsuc, Some, None}
use Rattle.terms.specs.declared.reading_type.ReadingType.{ReadingType}
use Rattle.terms.specs.declared.reading_type.ReadingType.TheVariants.{Actual, Substituted, Estimated}
use Rattle.rules.specs.Calls.{IsLawful, refusal}
use Rattle.rules.specs.History.{History, Setting}
use Rattle.rules.specs.declared.call.Call.{Call}
use Rattle.rules.specs.declared.call.Call.TheVariants.{Enrol, EnterReading}
use Rattle.rules.specs.declared.entry.Entry.TheVariants.{Enrolled, GateEntered, ReadingTaken}

-- three days from 1 July 2024, 32 points, one place for a reading
abbrev pub three_days : Setting
three_days = record {
  first = 8582;
  days = 3;
  points = 32;
  unaccounted = 0;
  places = 1;
  opening = λ p d. None;
  weather = λ count p d. None;
}

-- point 1 is enrolled from 1 July
abbrev pub one_enrolled : History
one_enrolled = Enrolled 1 (record { retailer = 1; start = 0 }) ∷ []

-- and the three days have loads
abbrev pub three_loaded : History
three_loaded =
    GateEntered 2 (record { energy_in = 50; energy_out = 0 })
    ∷ GateEntered 1 (record { energy_in = 300; energy_out = 0 })
    ∷ GateEntered 0 (record { energy_in = 100; energy_out = 0 })
    ∷ one_enrolled

-- and an actual reading of 1 and 2 July is taken
abbrev pub one_metered : History
one_metered =
    ReadingTaken (record { point = 1; start = 0; end = 2; energy = 200; reading_type = Actual }) ∷ three_loaded

-- a reading of a point, from a date to before another, is delivered
abbrev pub delivery : (point start end : ℕ) → (energy : ℤ) → ReadingType → Call
delivery point start end energy type = EnterReading (record {
  point = point;
  start = start;
  end = end;
  energy = energy;
  reading_type = type;
})

-- the history is one of a book, and further calls are refused or accepted as they should be
pub record WorkedReadings : Type 0 where
  -- the book can have this history: each entry is that of an accepted call
  pub lawful : IsLawful three_days one_metered
  -- and what is said to other calls then
  pub negative : refusal three_days one_metered (delivery 1 20240701 20240703 (negsuc 4) Actual) ≡ Some 6
  pub not_enrolled : refusal three_days one_metered (delivery 9 20240701 20240703 (pos 5) Actual) ≡ Some 7
  pub enrolled_already : refusal three_days one_metered (Enrol 1 1 20240701) ≡ Some 8
  pub start_is_no_mark : refusal three_days one_metered (delivery 1 20240702 20240703 (pos 5) Actual) ≡ Some 9
  pub end_at_start : refusal three_days one_metered (delivery 1 20240701 20240701 (pos 5) Actual) ≡ Some 10
  pub end_inside : refusal three_days one_metered (delivery 1 20240701 20240702 (pos 5) Actual) ≡ Some 10
  -- before the gate days came
  pub before_the_gate : refusal three_days one_enrolled (delivery 1 20240701 20240703 (pos 200) Actual) ≡ Some 11
  pub soft_over_firm : refusal three_days one_metered (delivery 1 20240701 20240703 (pos 5) Estimated) ≡ Some 12
  pub no_place : refusal three_days one_metered (delivery 1 20240703 20240704 (pos 5) Actual) ≡ Some 13
  pub longer : refusal three_days one_metered (delivery 1 20240701 20240704 (pos 250) Substituted) ≡ None
