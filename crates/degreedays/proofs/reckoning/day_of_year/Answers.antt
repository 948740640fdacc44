use Rattle.std.proofs.Common.{◌≡◌, Ok, Result, rules}
use Rattle.terms.specs.declared.refusal.Refusal.{Refusal}
use Rattle.calendar.specs.declared.date.Date.{Date}
use Rattle.degreedays.proofs.DaysOfYear.{day_of_year_found, day_of_year_bounds}
use Rattle.degreedays.proofs.reckoning.day_of_year.Goals as goal

pub returns : goal.returns
returns c =
    let read : ◌≡◌ {A = Result Date Refusal} c.from_digits.result (Ok c.in_ok-date.date) = search rules in
    record {
      answer = day_of_year_found _ c.in_ok-date.date c.args.date c.day_of_year.result c.day_of_year.ensures (rw read at c.from_digits.ensures);
      within = day_of_year_bounds c.in_ok-date.date c.day_of_year.result c.day_of_year.ensures;
    }
