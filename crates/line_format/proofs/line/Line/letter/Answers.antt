use Rattle.std.proofs.Common.{refl, rules}
use Rattle.line_format.specs.Kind.{reading_type}
use Rattle.line_format.specs.Segment.{segment}
use Rattle.line_format.proofs.LineSegments.{segment_read, letter_segment}
use Rattle.line_format.proofs.line.Line.letter.Goals as goal

pub returns : goal.returns
returns c =
    segment_read (segment reading_type 44 c.args.self.now.bytes) _ _ _ _ (letter_segment c.args.self.now.bytes (search rules)) refl c.type_of_letter.ensures c.at_column.ensures
