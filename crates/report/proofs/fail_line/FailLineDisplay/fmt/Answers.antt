use Rattle.std.proofs.Output.{has_written_of_eq}
use Rattle.std.proofs.lemmas.List.{append-nil}
use Rattle.report.proofs.ReportLineLemmas.{in_ten}
use Rattle.report.proofs.fail_line.FailLineDisplay.fmt.Goals as goal
use Rattle.report.specs.ReportLines.{fail_text}

pub returns-clause-writes : goal.returns-clause-writes
unfolding fail_text
returns-clause-writes g c = λ p ok.
    let line = in_ten _ c.args.self.now.0.line c.laid_out.ensures in
    let layer = in_ten _ c.number-layer.result c.laid_out-2.ensures in
    let number = in_ten _ c.number-number.result c.laid_out-3.ensures in
    let column = in_ten _ c.args.self.now.0.column c.laid_out-4.ensures in
    let day = in_ten _ c.unwrap_or-day.result c.laid_out-5.ensures in
    let layer_is = c.number-layer.ensures in
    let number_is = c.number-number.ensures in
    let or_none = c.unwrap_or-day.ensures in
    let day_is = c.date.ensures in
    has_written_of_eq _ _ _ _ _ (rw (line, layer, number, column, day, layer_is, number_is, or_none, day_is) (simp append-nil)) (c.write.ensures.writes p ok)
