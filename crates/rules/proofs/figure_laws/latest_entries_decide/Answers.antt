use Rattle.rules.proofs.Days.{covering_by_readings, same_sheet}
use Rattle.rules.proofs.figure_laws.latest_entries_decide.Goals as goal

pub returns : goal.returns
returns c = record {
  by_coverings = same_sheet;
  by_readings = λ s h new latest same. same_sheet s h new latest (covering_by_readings h new same);
}
