-- The tag and the fields so far stand at the front of the line, whichever contents the fields are written of.
use Rattle.std.proofs.Common.{List}
use Rattle.line_format.specs.Record.{Content, WritesFields}
use Rattle.line_format.proofs.LineBytes.{HasFront}
use Rattle.line_format.proofs.record.joined_line.Given as goal

abbrev pub invariant-loop-place : goal.invariant-loop-place
invariant-loop-place l = (cs : List Content) → WritesFields cs l.fields → HasFront l.fn.tag cs l.place l.line
