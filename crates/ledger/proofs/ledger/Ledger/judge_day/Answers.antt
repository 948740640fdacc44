use Rattle.std.proofs.Common.{true, false, is_some, sym, refl, ap, ◌∙◌}
use Rattle.rules.specs.Figures.{load}
use Rattle.ledger.proofs.Days.{day_given, day_refused}
use Rattle.ledger.proofs.ledger.Ledger.judge_day.Goals as goal

pub returns-then-not-has_load : goal.returns-then-not-has_load
returns-then-not-has_load c = λ s h f.
    let day = day_given c.args.date c.in_ok-day.day f c.in_ok-day.ensures in
    (day_refused s h c.args.date false day.0 day.1 (ap (λ d. is_some (load s h d)) (sym day.2) ∙ sym (c.has_load.ensures s h f) ∙ c.if-not-has_load.true), refl)

pub returns : goal.returns
returns c = λ s h f.
    let day = day_given c.args.date c.in_ok-day.day f c.in_ok-day.ensures in
    (day_refused s h c.args.date true day.0 day.1 (ap (λ d. is_some (load s h d)) (sym day.2) ∙ sym (c.has_load.ensures s h f) ∙ c.if-not-has_load.false), day.2)
