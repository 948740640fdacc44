use Rattle.std.proofs.Common.{refl}
use Rattle.line_format.specs.Segment.{none, next}
use Rattle.line_format.proofs.line.Line.interval_energy.Goals as goal

pub returns : goal.returns
returns c =
    let p = c.in_ok-date.ensures in
    (refl, next p.0 (next p.1 (next p.2 (next p.3.0 (next p.3.1 none)))))
