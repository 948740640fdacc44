use Rattle.std.proofs.Common.{◌++◌, take, drop, ap, ◌∙◌, rules}
use Rattle.std.proofs.lemmas.Int.{ints}
use Rattle.statements.specs.Lists.{adjustment_at, listed, shown_at}
use Rattle.statements.proofs.Adjustments.{second_row}
use Rattle.statements.proofs.sums.Sums.write_after.Goals as goal

pub returns : goal.returns
returns c =
    let old = c.args.old.now in
    let new = c.args.self.now in
    let first = c.write_numbers.ensures (adjustment_at old new) (λ place x below e. search (rules, ints)) in
    let second = c.write_numbers-2.ensures (shown_at new) (λ place x below e. search (rules, ints)) in
    second ∙ ap (λ l. take 17 l ++ (listed (shown_at new) ++ drop 34 l)) first ∙ second_row (adjustment_at old new) (shown_at new) c.args.list.now
