use Rattle.std.proofs.Common.{pos, refl}
use Rattle.terms.specs.declared.reading_type.ReadingType.TheVariants.{Actual}
use Rattle.calendar.specs.Digits.{is_date, day_number_of}
use Rattle.calendar.specs.Gregorian.{month_lengths, month_length, days_before_month, year_length, days_before_year, is_leap, day_exists}
use Rattle.rules.specs.declared.call.Call.TheVariants.{Enrol, EnterGate}
use Rattle.rules.specs.WorkedReadings.{delivery}
use Rattle.rules.proofs.reading_laws.worked_readings_hold.Goals as goal

pub returns : goal.returns
unfolding is_date day_number_of is_leap month_lengths month_length day_exists days_before_month year_length days_before_year
returns c = record {
  lawful = (
    (
      (
        ((tt, (Enrol 1 1 20240701, refl, refl)), (EnterGate 20240701 100 0, refl, refl)),
        (EnterGate 20240702 300 0, refl, refl),
      ),
      (EnterGate 20240703 50 0, refl, refl),
    ),
    (delivery 1 20240701 20240703 (pos 200) Actual, refl, refl),
  );
  negative = refl;
  not_enrolled = refl;
  enrolled_already = refl;
  start_is_no_mark = refl;
  end_at_start = refl;
  end_inside = refl;
  before_the_gate = refl;
  soft_over_firm = refl;
  no_place = refl;
  longer = refl;
}
