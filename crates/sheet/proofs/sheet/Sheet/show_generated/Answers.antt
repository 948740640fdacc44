use Rattle.std.proofs.Common.{◌≡◌, ℕ, ◌+◌, ◌≤◌, true, false, length, length-append, is_some, rules, sym, refl, ap, ◌∙◌, subst, arith}
use Rattle.std.proofs.lemmas.List.{get_or-map}
use Rattle.allocation.specs.declared.estimated_point.EstimatedPoint.{EstimatedPoint}
use Rattle.sheet.specs.Sheet.{SetsFigure}
use Rattle.sheet.proofs.Changes.{knows_only, written_only}
use Rattle.sheet.proofs.GeneratedFigures.{numbered_turn, shown_kept, shown_written}
use Rattle.sheet.proofs.sheet.Sheet.show_generated.Goals as goal
use Rattle.rules.specs.History.{covering_reading}

pub is_covered-requires : goal.is_covered-requires
is_covered-requires c =
    let turn = numbered_turn 1 (c.args.self.now.points + 1) c.args.points.now c.loop-point.yielded c.into_iter-point-iterator.result c.loop-point.point-iterator c.next.new.self c.next.result (search rules) (search rules) c.loop-point.yielded_by (c.in-Some.point, c.in-Some.row) c.in-Some.is c.next.ensures.steps in
    let only = c.loop-point.invariant.0 in
    (omega (arith, turn.1), omega (arith, turn.0, turn.1, only.points, c.requires.0))

pub show-requires : goal.show-requires
show-requires c =
    let turn = numbered_turn 1 (c.args.self.now.points + 1) c.args.points.now c.loop-point.yielded c.into_iter-point-iterator.result c.loop-point.point-iterator c.next.new.self c.next.result (search rules) (search rules) c.loop-point.yielded_by (c.in-Some.point, c.in-Some.row) c.in-Some.is c.next.ensures.steps in
    let only = c.loop-point.invariant.0 in
    ((omega (arith, turn.1), omega (arith, turn.0, turn.1, only.points, c.requires.0)), omega (arith, only.days, c.requires.1))

pub loop-point-preserved-then-not-is_covered : goal.loop-point-preserved-then-not-is_covered
loop-point-preserved-then-not-is_covered c =
    let turn = numbered_turn 1 (c.args.self.now.points + 1) c.args.points.now c.loop-point.yielded c.into_iter-point-iterator.result c.loop-point.point-iterator c.next.new.self c.next.result (search rules) (search rules) c.loop-point.yielded_by (c.in-Some.point, c.in-Some.row) c.in-Some.is c.next.ensures.steps in
    let only = c.loop-point.invariant.0 in
    let at : c.in-Some.point ≡ length c.loop-point.yielded + 1 = omega (arith, turn.1) in
    let row = c.in-Some.row.now in
    let few : length c.loop-point.yielded + 1 ≤ c.loop-point.self.points = omega (arith, only.points, c.requires.0, turn.0) in
    let there : SetsFigure c.in-Some.point c.args.day row.figure c.loop-point.self c.show.new.self = c.show.ensures in
    let written : SetsFigure (length c.loop-point.yielded + 1) c.args.day row.figure c.loop-point.self c.show.new.self = subst (λ (q : ℕ). SetsFigure q c.args.day row.figure c.loop-point.self c.show.new.self) at there in
    rw length-append (
      written_only written only (omega arith) few (omega arith) (omega arith),
      there.notes ∙ c.loop-point.invariant.1,
      λ s h knows.
          let none : is_some (covering_reading h (length c.loop-point.yielded + 1) c.args.day) ≡ false = ap (λ (q : ℕ). is_some (covering_reading h q c.args.day)) (sym at) ∙ sym (c.is_covered.ensures s h (knows_only only knows)) ∙ c.if-not-is_covered.true in
          shown_written (c.loop-point.invariant.2 s h knows) none (only.points ∙ knows.points) (omega (arith, few, only.points, knows.points)) written
          (sym (get_or-map (λ (r : EstimatedPoint). r.figure) c.args.points.now (length c.loop-point.yielded) row 0 turn.0 ∙ sym (ap (λ (r : EstimatedPoint). r.figure) (turn.2 row)))),
    )

pub loop-point-preserved : goal.loop-point-preserved
loop-point-preserved c =
    let turn = numbered_turn 1 (c.args.self.now.points + 1) c.args.points.now c.loop-point.yielded c.into_iter-point-iterator.result c.loop-point.point-iterator c.next.new.self c.next.result (search rules) (search rules) c.loop-point.yielded_by (c.in-Some.point, c.in-Some.row) c.in-Some.is c.next.ensures.steps in
    let only = c.loop-point.invariant.0 in
    let at : c.in-Some.point ≡ length c.loop-point.yielded + 1 = omega (arith, turn.1) in
    rw length-append (
      only,
      c.loop-point.invariant.1,
      λ s h knows.
          let covers : is_some (covering_reading h (length c.loop-point.yielded + 1) c.args.day) ≡ true = ap (λ (q : ℕ). is_some (covering_reading h q c.args.day)) (sym at) ∙ sym (c.is_covered.ensures s h (knows_only only knows)) ∙ c.if-not-is_covered.false in
          shown_kept (c.loop-point.invariant.2 s h knows) covers refl,
    )
