use Rattle.std.proofs.Common.{◌-◌, ◌≤◌, length, get_or, pos, ◌∙◌, w32, FitsSigned, rules}
use Rattle.std.proofs.lemmas.Int.{to_z-of_z}
use Rattle.estimates.proofs.SeasonTerms.{entry_at}
use Rattle.estimates.proofs.season_table.entry_of.Goals as goal

pub returns-clause-value : goal.returns-clause-value
returns-clause-value c =
    let fits : FitsSigned w32 (get_or c.args.table.now (c.args.day_of_year - 1) (pos 0)) = search rules in
    let low : 1 ≤ c.args.day_of_year = search rules in
    let high : c.args.day_of_year ≤ length c.args.table.now = search rules in
    to_z-of_z w32 _ fits ∙ entry_at c.args.table.now c.requires.terms.0 c.args.day_of_year low high
