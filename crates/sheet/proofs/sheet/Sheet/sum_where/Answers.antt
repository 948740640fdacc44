use Rattle.std.proofs.Common.{◌≡◌, ◌+◌, ◌-◌, ◌^◌, min, sym, ap, ◌∙◌, arith}
use Rattle.sheet.specs.Sheet.{sum_where}
use Rattle.sheet.proofs.Sums.{sum_where_none, sum_where_skip, sum_where_step}
use Rattle.sheet.proofs.sheet.Sheet.sum_where.Goals as goal
use Rattle.sheet.proofs.sheet.Sheet.sum_where.Goals.{else-loop-point-test, else-test, then-loop-point-test+else-point-point-end, then-test}

pub loop-point-init : goal.loop-point-init
loop-point-init g c = (omega arith, λ passes law. omega (arith, sum_where_none passes c.args.self.now c.args.day))

pub loop-point-preserved : goal.loop-point-preserved
loop-point-preserved g c = (
  omega arith,
  λ passes law.
      let b = c.args.self.now in
      let day = c.args.day in
      let point = c.loop-point.point in
      let before = c.loop-point.invariant.1 passes law in
      let counts = law point c.test.result (c.loop-point.auto.point, c.loop-point-test.true) c.test.ensures in
      elim c.if-test.branch [
        | then-test w ↦
            w.total-is ∙ w.saturating_add-total.ensures ∙ ap (λ x. min (c.loop-point.total + x) (2 ^ 64 - 1)) w.figure_at.ensures
            ∙ sum_where_step passes b day point c.loop-point.total c.loop-point.auto.point (sym counts ∙ w.if-test.true) before
        | else-test w ↦
            w.total-is ∙ sum_where_skip passes b day point c.loop-point.total c.loop-point.auto.point (sym counts ∙ w.if-test.false) before
      ],
)

pub returns : goal.returns
returns g c = λ passes law.
    let b = c.args.self.now in
    let day = c.args.day in
    let point = c.loop-point.point in
    let before = c.loop-point.invariant.1 passes law in
    elim c.loop-point-test.branch [
      | else-loop-point-test w ↦
          let all : c.loop-point.point - 1 ≡ c.args.self.now.points = omega (arith, w.loop-point-test.false) in
          w.total-is ∙ before ∙ ap (λ n. min (sum_where passes b day n) (2 ^ 64 - 1)) all
      | then-loop-point-test+else-point-point-end w ↦
          let all : c.loop-point.point + 1 - 1 ≡ c.args.self.now.points = omega arith in
          let counts = law point w.test.result (c.loop-point.auto.point, w.loop-point-test.true) w.test.ensures in
          w.total-is
          ∙ elim w.if-test.branch [
            | then-test w' ↦
                w'.total-is ∙ w'.saturating_add-total.ensures ∙ ap (λ x. min (c.loop-point.total + x) (2 ^ 64 - 1)) w'.figure_at.ensures
                ∙ sum_where_step passes b day point c.loop-point.total c.loop-point.auto.point (sym counts ∙ w'.if-test.true) before
            | else-test w' ↦
                w'.total-is ∙ sum_where_skip passes b day point c.loop-point.total c.loop-point.auto.point (sym counts ∙ w'.if-test.false) before
          ]
          ∙ ap (λ n. min (sum_where passes b day n) (2 ^ 64 - 1)) all
    ]
