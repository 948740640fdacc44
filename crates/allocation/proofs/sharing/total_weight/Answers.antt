use Rattle.std.proofs.Common.{◌≡◌, ◌+◌, fold, sym, refl, ap, ◌∙◌, arith, rules}
use Rattle.std.proofs.lemmas.List.Folds.{fold_along}
use Rattle.std.proofs.lemmas.List.Sums.{sum-map}
use Rattle.allocation.specs.Sharing.{saturated_u64}
use Rattle.allocation.proofs.sharing.total_weight.Goals as goal

pub returns : goal.returns
returns g c =
    let w = g.R.Row.weight in
    let folded : c.fold.result ≡ fold (λ total row. saturated_u64 (total + w row)) 0 c.args.rows.now = search rules in
    folded
    ∙ fold_along (λ total row. saturated_u64 (total + w row)) (λ s row. s + w row) (λ total s. total ≡ saturated_u64 s)
    (λ total s row e. omega (arith, e)) 0 0 c.args.rows.now refl
    ∙ ap saturated_u64 (sym (sum-map w c.args.rows.now))
