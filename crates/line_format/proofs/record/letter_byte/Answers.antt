use Rattle.std.proofs.Common.{rules}
use Rattle.line_format.proofs.LineBytes.{letter_written}
use Rattle.line_format.proofs.record.letter_byte.Goals as goal

pub returns : goal.returns
returns c = letter_written c.args.letter _ (search rules)
