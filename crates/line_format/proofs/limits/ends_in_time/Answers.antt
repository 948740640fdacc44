use Rattle.std.proofs.Common.{rules}
use Rattle.line_format.proofs.BookEnds.{ends_either}
use Rattle.line_format.proofs.limits.ends_in_time.Goals as goal

pub returns : goal.returns
returns c =
    ends_either c.args.opening.now.first_date c.args.opening.now.days c.day_number_of.result c.map_or.result c.day_number_of.ensures (search rules)
