use Rattle.std.proofs.Common.{refl, sym, subst, w64, SFits, rules}
use Rattle.std.proofs.lemmas.Int.{to_z-of_z}
use Rattle.line_format.specs.Kind.{signed}
use Rattle.line_format.specs.Segment.{segment, HoldsValue, none, next}
use Rattle.line_format.specs.declared.tag.Tag.TheVariants.{Read}
use Rattle.line_format.proofs.Exits.{at_exit}
use Rattle.line_format.specs.Line.{ReadsContents}
use Rattle.line_format.proofs.LineSegments.{at, past}
use Rattle.line_format.proofs.line.Line.reading.Goals as goal

pub returns-in_err-point : goal.returns-in_err-point
returns-in_err-point c =
    at_exit (ReadsContents Read c.args.self.now.bytes) _ _ c.from_residual.ensures (at c.in_err-point.ensures)

pub returns-in_err-start : goal.returns-in_err-start
returns-in_err-start c =
    at_exit (ReadsContents Read c.args.self.now.bytes) _ _ c.from_residual-in_err-start.ensures (past c.in_ok-point.ensures (at c.in_err-start.ensures))

pub returns-in_err-end : goal.returns-in_err-end
returns-in_err-end c =
    at_exit (ReadsContents Read c.args.self.now.bytes) _ _ c.from_residual-in_err-end.ensures (past c.in_ok-point.ensures (past c.in_ok-start.ensures (at c.in_err-end.ensures)))

pub returns-in_err-energy : goal.returns-in_err-energy
returns-in_err-energy c =
    at_exit (ReadsContents Read c.args.self.now.bytes) _ _ c.from_residual-in_err-energy.ensures (past c.in_ok-point.ensures (past c.in_ok-start.ensures (past c.in_ok-end.ensures (at c.in_err-energy.ensures))))

pub returns-in_err-reading_type : goal.returns-in_err-reading_type
returns-in_err-reading_type c =
    at_exit (ReadsContents Read c.args.self.now.bytes) _ _ c.from_residual-in_err-reading_type.ensures (past c.in_ok-point.ensures (past c.in_ok-start.ensures (past c.in_ok-end.ensures (past c.in_ok-energy.ensures (at c.in_err-reading_type.ensures)))))

pub returns : goal.returns
returns c =
    let small : SFits w64 c.in_ok-energy.energy = search rules in
    let energy = subst (HoldsValue (segment signed 34 c.args.self.now.bytes)) (sym (to_z-of_z w64 c.in_ok-energy.energy small)) c.in_ok-energy.ensures in
    (refl, next c.in_ok-point.ensures (next c.in_ok-start.ensures (next c.in_ok-end.ensures (next energy (next c.in_ok-reading_type.ensures none)))))
