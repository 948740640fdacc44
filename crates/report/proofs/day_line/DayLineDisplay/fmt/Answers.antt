use Rattle.std.proofs.Output.{has_written_of_eq}
use Rattle.std.proofs.lemmas.List.{append-nil}
use Rattle.report.proofs.ReportLineLemmas.{in_ten}
use Rattle.report.proofs.day_line.DayLineDisplay.fmt.Goals as goal
use Rattle.report.specs.ReportLines.{day_text}

pub returns-clause-writes : goal.returns-clause-writes
unfolding day_text
returns-clause-writes g c = λ p ok.
    let figures = c.args.self.now.figures in
    let date = in_ten _ c.args.self.now.date c.laid_out.ensures in
    let load = in_ten _ figures.load c.laid_out-2.ensures in
    let supplied = in_ten _ figures.supplied c.laid_out-3.ensures in
    let generated = in_ten _ figures.generated c.laid_out-4.ensures in
    let remainder = in_ten _ figures.remainder c.laid_out-5.ensures in
    let excess = in_ten _ figures.excess c.laid_out-6.ensures in
    let missing = in_ten _ figures.missing c.laid_out-7.ensures in
    has_written_of_eq _ _ _ _ _ (rw (date, load, supplied, generated, remainder, excess, missing) (simp append-nil)) (c.write.ensures.writes p ok)
