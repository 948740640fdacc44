use Rattle.std.proofs.Common.{◌≡◌, sym, ◌∙◌, subst, inl, inr, ⊎_elim, arith}
use Rattle.std.proofs.lemmas.Bool.{cases_eq}
use Rattle.sheet.specs.SheetOfHistory.{IsSettled}
use Rattle.sheet.proofs.Changes.{knows_only, only_join}
use Rattle.sheet.proofs.DayNotes.{notes_join, ready_stands, settled_stands}
use Rattle.sheet.proofs.sheet.Sheet.settle_days.Goals as goal

pub resettle_day-requires : goal.resettle_day-requires
resettle_day-requires g c = omega (arith, c.loop-day.invariant.0.days, c.loop-day-test.true, c.requires.1)

pub loop-day-preserved : goal.loop-day-preserved
loop-day-preserved g c =
    let only = c.loop-day.invariant.0 in
    let notes = c.loop-day.invariant.1 in
    let here = c.resettle_day.ensures.stands in
    let noted = c.resettle_day.ensures.notes in (
      only_join c.loop-day.auto.day (omega arith) only here,
      notes_join c.loop-day.auto.day (omega arith) notes noted,
      λ s h knows on ready d low high.
          let many = only.points ∙ knows.points in
          ⊎_elim
          (λ (now_settled : d ≡ c.loop-day.day).
          subst (λ e. IsSettled s h c.resettle_day.new.self e) (sym now_settled)
          (c.resettle_day.ensures.law s h (knows_only only knows) (on c.loop-day.day)
          (ready_stands only notes s h c.loop-day.day knows.points (inr (omega arith)) (ready c.loop-day.day c.loop-day.auto.day c.loop-day-test.true))))
          (λ (before : d ≡ c.loop-day.day → ⊥).
          settled_stands here noted s h d many (inl (omega arith)) (c.loop-day.invariant.2 s h knows on ready d low (omega arith)))
          (cases_eq d c.loop-day.day),
    )

pub returns-clause-law : goal.returns-clause-law
returns-clause-law g c = λ s h knows on ready d low high. c.loop-day.invariant.2 s h knows on ready d low (omega (arith, c.loop-day-test.false, high))
