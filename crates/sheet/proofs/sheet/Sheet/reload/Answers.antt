use Rattle.std.proofs.Common.{◌≤◌, ◌∙◌, arith}
use Rattle.sheet.proofs.Changes.{knows_only}
use Rattle.sheet.proofs.NewEntries.{knows_load, sheet_after_load, ready_after_load}
use Rattle.sheet.proofs.sheet.Sheet.reload.Goals as goal

pub returns : goal.returns
returns g c = λ s rest h new moved follows on within is_sheet.
    let day = c.args.day in
    let ledger = c.args.sources.now.ledger.now in
    let old = c.args.self.now in
    let knowing = c.set_load.new.self in
    let sharing = c.share_readings_over-joined.new.self in
    let from = c.share_readings_over-joined.result.from in
    let to = c.share_readings_over-joined.result.to in
    let learned = c.set_load.ensures.after s new follows in
    let inside = c.set_load.ensures.within in
    let around = c.share_readings_over-joined.ensures.around in
    let only = c.share_readings_over-joined.ensures.stands in
    let knows = knows_load s h new day ledger moved follows old knowing is_sheet learned inside in
    let shared = c.share_readings_over-joined.ensures.law s new knows in
    let notes = c.share_readings_over-joined.ensures.notes ∙ c.set_load.ensures.notes in
    let last : c.share_readings_over-joined.result.to ≤ s.days = omega (arith, knows.days, around.1.1) in
    sheet_after_load s h new day ledger moved follows old knowing is_sheet learned inside from to sharing around.0 around.1.0 around.1.1 only shared notes c.settle_days.new.self
    c.settle_days.ensures.stands c.settle_days.ensures.notes
    (c.settle_days.ensures.law s new (knows_only only knows) on
    (λ d low high. ready_after_load s h new day ledger moved follows old knowing is_sheet learned inside from to sharing around.0 around.1.0 around.1.1 only shared notes d (omega (arith, last, high))))
