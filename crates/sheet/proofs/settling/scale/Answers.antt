use Rattle.std.proofs.Common.{◌≡◌, ℕ, ◌+◌, ◌-◌, ◌<◌, ◌≤◌, IfSome, sum, Option, unwrap_or, sym, ap, ◌∙◌, subst, arith}
use Rattle.allocation.specs.Sharing.{shares}
use Rattle.sheet.specs.Scaling.{estimates_of_points}
use Rattle.sheet.proofs.ScaledEstimates.{accepted_ok, exceeds, left_shareable, noted_scaled, scaled_by, shared_figures}
use Rattle.sheet.proofs.settling.scale.Goals as goal
use Rattle.rules.specs.Figures.{needs_scaling}

pub unwrap-requires : goal.unwrap-requires
unwrap-requires c =
    accepted_ok c.share.result _ 3
    (left_shareable c.args.load c.in-Some.load c.args.supplied c.saturating_sub-left.result c.estimates_total-estimated.result c.args.points.now c.requires.load c.in-Some.is c.saturating_sub-left.ensures c.requires.points.0 c.estimates_total-estimated.ensures
    (omega (arith, c.if-estimated-eq0.false))) c.share.ensures.answer

pub returns-clause-figures : goal.returns-clause-figures
returns-clause-figures c =
    let n = c.in-Some.load in
    let rows = c.args.points.now in
    let left : ℕ = c.saturating_sub-left.result in
    let small : c.in-Some.load ≤ 1000000000 = subst (λ (o : Option ℕ). IfSome o (λ x. x ≤ 1000000000)) c.in-Some.is c.requires.load in
    let total : sum (estimates_of_points c.args.points.now) ≡ c.estimates_total-estimated.result = sym c.estimates_total-estimated.ensures in
    let some : 0 < sum (estimates_of_points c.args.points.now) = omega (arith, total, c.if-estimated-eq0.false) in
    let above : c.in-Some.load < c.args.supplied + sum (estimates_of_points c.args.points.now) = omega (arith, total, small, c.saturating_add.ensures, c.if-saturating_add-load.false) in
    let can = left_shareable c.args.load n c.args.supplied left c.estimates_total-estimated.result rows c.requires.load c.in-Some.is c.saturating_sub-left.ensures c.requires.points.0 c.estimates_total-estimated.ensures (omega (arith, c.if-estimated-eq0.false)) in
    scaled_by c.args.load c.args.supplied (estimates_of_points rows) _
    (ap (λ o. needs_scaling c.args.supplied (sum (estimates_of_points rows)) o) c.in-Some.is ∙ exceeds c.args.supplied (sum (estimates_of_points rows)) n above some)
    (shared_figures left rows c.share.new.rows can c.share.ensures.rows
    ∙ ap (λ x. shares x (estimates_of_points rows)) (c.saturating_sub-left.ensures ∙ ap (λ o. unwrap_or o 0 - c.args.supplied) (sym c.in-Some.is)))

pub returns-clause-note : goal.returns-clause-note
returns-clause-note c =
    let rows = c.args.points.now in
    let small : c.in-Some.load ≤ 1000000000 = subst (λ (o : Option ℕ). IfSome o (λ x. x ≤ 1000000000)) c.in-Some.is c.requires.load in
    let total : sum (estimates_of_points c.args.points.now) ≡ c.estimates_total-estimated.result = sym c.estimates_total-estimated.ensures in
    let some : 0 < sum (estimates_of_points c.args.points.now) = omega (arith, total, c.if-estimated-eq0.false) in
    let above : c.in-Some.load < c.args.supplied + sum (estimates_of_points c.args.points.now) = omega (arith, total, small, c.saturating_add.ensures, c.if-saturating_add-load.false) in
    c.note_of_scaled.ensures ∙ noted_scaled c.args.load c.args.supplied c.in-Some.load c.saturating_sub-left.result (estimates_of_points rows) c.in-Some.is c.saturating_sub-left.ensures above some
