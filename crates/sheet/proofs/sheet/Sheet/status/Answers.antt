use Rattle.std.proofs.lemmas.Bool.{le-ltb, lt-ltb}
use Rattle.sheet.proofs.PointStatuses.{absent, active_from, active_never, active_not_yet, present}
use Rattle.sheet.proofs.sheet.Sheet.status.Goals as goal

pub returns-then-day-self : goal.returns-then-day-self
returns-then-day-self c = λ s h knows.
    present knows c.args.point c.args.day c.requires.0 c.requires.1 _
    (active_from h c.args.point c.args.day c.in-Some.enrolment (c.in-Some.ensures.law s h knows.follows) c.if-enrolment-day.true)
    (lt-ltb _ _ c.if-day-self.true)

pub returns-else-day-self : goal.returns-else-day-self
returns-else-day-self c = λ s h knows.
    present knows c.args.point c.args.day c.requires.0 c.requires.1 _
    (active_from h c.args.point c.args.day c.in-Some.enrolment (c.in-Some.ensures.law s h knows.follows) c.if-enrolment-day.true)
    (le-ltb _ _ c.if-day-self.false)

pub returns-in_default : goal.returns-in_default
returns-in_default c = λ s h knows.
    absent knows c.args.point c.args.day c.requires.0 c.requires.1
    (active_not_yet h c.args.point c.args.day c.in-Some.enrolment (c.in-Some.ensures.law s h knows.follows) c.if-enrolment-day.false)

pub returns-in_default-2 : goal.returns-in_default-2
returns-in_default-2 c = λ s h knows.
    absent knows c.args.point c.args.day c.requires.0 c.requires.1
    (active_never h c.args.point c.args.day (c.in_default.ensures.law s h knows.follows))
