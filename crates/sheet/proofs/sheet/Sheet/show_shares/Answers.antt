use Rattle.std.proofs.Common.{◌≡◌, get_or, length, rules, sym, ap, ◌∙◌, arith}
use Rattle.std.proofs.lemmas.List.{get_or-map}
use Rattle.allocation.specs.declared.reading_day.ReadingDay.{ReadingDay}
use Rattle.sheet.specs.DayWeights.{shares_of_days}
use Rattle.sheet.proofs.ReadingShares.{figures_more, shown_more}
use Rattle.sheet.proofs.sheet.Sheet.show_shares.Goals as goal

pub loop-day-preserved : goal.loop-day-preserved
loop-day-preserved c =
    let old = c.args.self.now in
    let b = c.loop-day.self in
    let new = c.show.new.self in
    let r = c.args.reading.now in
    let day = c.loop-day.day in
    let only = c.loop-day.invariant.0 in
    let shown = c.show.ensures in
    let many : length c.loop-day.self.reading_days ≡ 400 = search rules in
    let share_is : get_or (shares_of_days c.args.self.now.reading_days) c.loop-day.day 0 ≡ (get_or c.loop-day.self.reading_days c.loop-day.day c.index-self-day.result).share =
    ap (λ ws. get_or (shares_of_days ws) c.loop-day.day 0) (sym c.loop-day.invariant.2)
    ∙ get_or-map (λ (row : ReadingDay). row.share) c.loop-day.self.reading_days c.loop-day.day c.index-self-day.result 0
    (omega (arith, many, c.loop-day-test.true, c.requires.last, c.args.self.now.few_days)) in (
      shown_more old b new r.point r.start day _ c.loop-day.auto.day only c.requires.low c.requires.high shown.figures shown.days shown.points shown.loads shown.covered,
      shown.notes ∙ c.loop-day.invariant.1,
      shown.reading_days ∙ c.loop-day.invariant.2,
      figures_more old b new r.point r.start day _ c.loop-day.auto.day only c.requires.low c.requires.high shown.figures (shares_of_days c.args.self.now.reading_days) shown.points
          shown.within share_is c.loop-day.invariant.3,
    )
