use Rattle.sheet.proofs.Coverage.{covered_after_degree_days, covered_after_enrolment, covered_after_gate, covered_after_interval, covered_after_reading, covered_at_opening}
use Rattle.sheet.proofs.place_laws.coverage_reaches.Goals as goal

pub returns : goal.returns
returns c = record {
  at_opening = covered_at_opening;
  after_enrolment = covered_after_enrolment;
  after_reading = covered_after_reading;
  after_gate = covered_after_gate;
  after_interval = covered_after_interval;
  after_degree_days = covered_after_degree_days;
}
