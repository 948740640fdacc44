use Rattle.std.proofs.Common.{◌≡◌, ℕ, ◌+◌, ◌<◌, Bool, length, is_some, sym, ◌∙◌, arith}
use Rattle.std.proofs.lemmas.List.{ext_get_or, length-map}
use Rattle.allocation.specs.declared.estimated_point.EstimatedPoint.{EstimatedPoint}
use Rattle.sheet.specs.Scaling.{estimates_of_points, figures_of_points}
use Rattle.sheet.proofs.RowsByPlaces.{from_counting}
use Rattle.sheet.proofs.ScaledEstimates.{written_more}
use Rattle.sheet.proofs.Sums.{sum_where_more, sum_where_none}
use Rattle.sheet.proofs.sheet.Sheet.gather.Goals as goal
use Rattle.rules.specs.Figures.{counted_estimate}
use Rattle.rules.specs.History.{covering_reading}

pub loop-i-init : goal.loop-i-init
loop-i-init g c = (
  λ k none. absurd (omega arith),
  λ s h knows on k none. absurd (omega arith),
  λ s h knows. omega (arith, sum_where_none (λ p. is_some (covering_reading h p c.args.day)) c.args.self.now c.args.day),
)

pub loop-i-preserved : goal.loop-i-preserved
loop-i-preserved g c =
    let rows = c.loop-i.points in
    let i = c.loop-i.i in
    let new = c.unscaled_point.result in
    let inside : c.loop-i.i < length c.loop-i.points = omega (arith, c.loop-i.auto.points, c.loop-i-test.true) in
    let same = c.unscaled_point.ensures.figure ∙ sym c.unscaled_point.ensures.estimate in (
      written_more rows i new inside (λ f e k. f ≡ e) c.loop-i.invariant.0 same,
      λ s h knows on.
          written_more rows i new inside (λ f e k. e ≡ counted_estimate s h (k + 1) c.args.day) (c.loop-i.invariant.1 s h knows on)
          (c.unscaled_point.ensures.estimate ∙ c.contribution_of-part.ensures.estimate s h knows on),
      λ s h knows.
          let covered : ℕ → Bool = λ p. is_some (covering_reading h p c.args.day) in
          let more = sum_where_more covered c.args.self.now c.args.day i in
          omega (arith, more, c.loop-i.invariant.2 s h knows, c.saturating_add-supplied.ensures, c.contribution_of-part.ensures.supplied s h knows),
    )

pub returns-clause-same : goal.returns-clause-same
returns-clause-same g c =
    let rows = c.loop-i.points in
    ext_get_or 0 (figures_of_points rows) (estimates_of_points rows) (length-map rows (λ (row : EstimatedPoint). row.figure) ∙ sym (length-map rows (λ (row : EstimatedPoint). row.estimate)))
    (λ k below. c.loop-i.invariant.0 k (omega (arith, below, length-map rows (λ (row : EstimatedPoint). row.figure), c.loop-i.auto.points, c.loop-i-test.false)))

pub returns-clause-estimates : goal.returns-clause-estimates
returns-clause-estimates g c = λ s h knows on.
    let rows = c.loop-i.points in
    let long : length c.loop-i.points ≡ c.args.self.now.points = c.loop-i.auto.points ∙ c.requires.0 in
    from_counting (λ p. counted_estimate s h p c.args.day) s.points (estimates_of_points rows) (length-map rows (λ (row : EstimatedPoint). row.estimate) ∙ long ∙ knows.points)
    (λ k below. c.loop-i.invariant.1 s h knows on k (omega (arith, below, long, knows.points, c.loop-i.auto.points, c.loop-i-test.false)))
