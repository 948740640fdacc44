use Rattle.std.proofs.Common.{◌≡◌, ℕ, ◌*◌, ◌++◌, map, take, drop, vec_items, sym, refl, ap, ◌∙◌, arith}
use Rattle.ledger.proofs.Openings.{zero_of}
use Rattle.sheet.proofs.EmptySheet.{opened_is_sheet}
use Rattle.sheet.proofs.sheet.Sheet.open.Goals as goal

pub returns-clause-stands : goal.returns-clause-stands
returns-clause-stands c = λ s days points.
    let places : s.days * s.points ≡ c.args.days * c.args.points = λ i. days i * points i in
    opened_is_sheet s _ _ (vec_items c.args.figures) (sym days) (sym points) (omega (arith, c.len.ensures, places, c.args.figures.ok.0))
    (c.cleared_figures.ensures.items ∙ ap (λ (n : ℕ). map zero_of (take n (vec_items c.args.figures)) ++ drop n (vec_items c.args.figures)) (sym places)) refl refl
    (ap (λ (n : ℕ). drop n (vec_items c.args.figures)) places)
