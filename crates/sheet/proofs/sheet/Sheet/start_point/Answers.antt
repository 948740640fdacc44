use Rattle.std.proofs.Common.{ℕ, subst, arith}
use Rattle.std.proofs.lemmas.Bool.Decides.{nat_tests}
use Rattle.rules.specs.declared.entry.Entry.TheVariants.{Enrolled}
use Rattle.sheet.specs.Sheet.{ChangesOnlyDays, ChangesOnlyNotes}
use Rattle.sheet.proofs.NewEntries.{sheet_after_enrolment, knows_enrolment, ready_after_enrolment}
use Rattle.sheet.proofs.sheet.Sheet.start_point.Goals as goal
use Rattle.sheet.proofs.sheet.Sheet.start_point.Goals.{then-not-contains-via-else-not-contains+then-enrolment-self, then-not-contains-via-then-not-contains}
use Rattle.rules.proofs.AcceptedEntries.{entry_in}

pub returns-then-not-contains : goal.returns-then-not-contains
returns-then-not-contains g c = λ s rest h lawful follows on is_sheet.
    let inside = entry_in s h (Enrolled c.args.point c.args.enrolment) lawful in
    absurd (
    elim c.then-not-contains.branch [
      | then-not-contains-via-then-not-contains w ↦ grind (arith, nat_tests, inside.0, inside.1, is_sheet.points)
      | then-not-contains-via-else-not-contains+then-enrolment-self w ↦ omega (arith, inside.2, is_sheet.days, w.if-enrolment-self.true)
    ]
    )

pub returns : goal.returns
returns g c = λ s rest h lawful follows on is_sheet.
    let point = c.args.point in
    let enrolment = c.args.enrolment in
    let ledger = c.args.sources.now.ledger.now in
    let old = c.args.self.now in
    let knowing = c.start_cover.new.self in
    let learned = c.start_cover.ensures.after in
    let known = knows_enrolment s h point enrolment ledger lawful follows old knowing is_sheet learned c.start_cover.ensures.within in
    let from = c.days_from-days.ensures.from in
    let to = c.days_from-days.ensures.to in
    sheet_after_enrolment s h point enrolment ledger lawful follows old knowing is_sheet learned c.start_cover.ensures.within c.settle_days.new.self
    (subst (λ (n : ℕ). ChangesOnlyDays n c.start_cover.new.self.days c.start_cover.new.self c.settle_days.new.self) from
    (subst (λ (n : ℕ). ChangesOnlyDays c.days_from-days.result.from n c.start_cover.new.self c.settle_days.new.self) to c.settle_days.ensures.stands))
    (subst (λ (n : ℕ). ChangesOnlyNotes n c.start_cover.new.self.days c.start_cover.new.self c.settle_days.new.self) from
    (subst (λ (n : ℕ). ChangesOnlyNotes c.days_from-days.result.from n c.start_cover.new.self c.settle_days.new.self) to c.settle_days.ensures.notes))
    c.start_cover.ensures.notes
    (λ d low high.
    c.settle_days.ensures.law s _ known on
    (λ e first last. ready_after_enrolment s h point enrolment ledger lawful follows old knowing is_sheet learned c.start_cover.ensures.within c.start_cover.ensures.notes e (omega (arith, known.days, to, last)))
    d (omega (arith, from, low)) (omega (arith, to, high)))
