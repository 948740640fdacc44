use Rattle.report.proofs.OneReportLemmas.{reported_once, said_once}
use Rattle.report.proofs.input_report.each_input_has_one_report.Goals as goal

pub returns : goal.returns
returns c = record { line_has_one_content = said_once; input_has_one_report = reported_once }
