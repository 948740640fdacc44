use Rattle.std.proofs.Common.{◌≡◌, ℕ, ◌+◌, ◌-◌, count_by, ap, ◌∙◌, subst, arith, rules}
use Rattle.std.proofs.lemmas.Iterator.{YieldsList-from_range}
use Rattle.std.proofs.lemmas.Iterator.Consumers.{YieldsList-from_filter, count_from_yields_List}
use Rattle.std.proofs.lemmas.List.Sums.{length-filter}
use Rattle.std.specs.List.{range_with_len}
use Rattle.sheet.proofs.Sums.{lacks}
use Rattle.sheet.proofs.sheet.Sheet.missing_count.Goals as goal

pub returns : goal.returns
returns g c = λ s h knows on.
    let points = c.args.self.now.points in
    let all : c.args.self.now.points + 1 - 1 ≡ c.args.self.now.points = omega arith in
    count_from_yields_List c.filter.result c.count.result c.count.ensures.ran
    (YieldsList-from_filter _ (lacks s h c.args.day) (YieldsList-from_range 1 (points + 1) points c.filter.ensures.source all) c.filter.ensures.closure (λ x b q k. (search rules, subst (λ (p : ℕ). b ≡ lacks s h c.args.day p) k.shows (search (rules, knows, on)))))
    ∙ length-filter (lacks s h c.args.day) (range_with_len 1 points) ∙ ap (λ n. count_by (lacks s h c.args.day) (range_with_len 1 n)) knows.points
