use Rattle.std.proofs.Common.{refl, rules}
use Rattle.line_format.specs.Kind.{no_letter}
use Rattle.line_format.specs.Segment.{segment}
use Rattle.line_format.proofs.LineSegments.{segment_read, letter_segment}
use Rattle.line_format.proofs.line.Line.no_letter.Goals as goal

pub returns : goal.returns
returns c =
    segment_read (segment no_letter 44 c.args.self.now.bytes) _ _ _ _ (letter_segment c.args.self.now.bytes (search rules)) refl c.read_no_letter.ensures c.at_column.ensures
