use Rattle.std.proofs.Common.{ℕ, sym, refl, ◌∙◌, subst, inl, arith}
use Rattle.std.proofs.lemmas.Bool.{both_ways}
use Rattle.sheet.specs.Sheet.{ChangesOnlyDays, ChangesOnlyNotes}
use Rattle.sheet.proofs.Changes.{knows_only, only_again}
use Rattle.sheet.proofs.DayNotes.{notes_again}
use Rattle.sheet.proofs.JoinedReadings.{held_lies}
use Rattle.sheet.proofs.NewEntries.{knows_reading, reading_lies, sheet_after_reading, ready_after_reading}
use Rattle.sheet.proofs.sheet.Sheet.take_reading.Goals as goal

pub returns-then-not-contains_reading : goal.returns-then-not-contains_reading
returns-then-not-contains_reading g c = λ s rest h lawful follows on is_sheet.
    absurd (both_ways _ (sym c.contains_reading.ensures ∙ c.if-not-contains_reading.true) (reading_lies s h c.args.reading.now lawful c.args.self.now is_sheet))

pub returns : goal.returns
returns g c = λ s rest h lawful follows on is_sheet.
    let r = c.args.reading.now in
    let ledger = c.args.sources.now.ledger.now in
    let old = c.args.self.now in
    let knowing = c.extend_cover.new.self in
    let sharing = c.share_reading.new.self in
    let learned = c.extend_cover.ensures.after in
    let inside = c.extend_cover.ensures.within in
    let knows = knows_reading s h r ledger lawful follows old knowing is_sheet learned inside in
    let lies = held_lies knows r (inl refl) in
    let shared = c.share_reading.ensures.law ledger s _ knows in
    let only = c.share_reading.ensures.stands in
    let from = c.from.ensures.0 in
    let to = c.from.ensures.1 in
    let settled : ChangesOnlyDays c.args.reading.now.start c.args.reading.now.end c.share_reading.new.self c.settle_days.new.self =
    subst (λ (n : ℕ). ChangesOnlyDays n c.args.reading.now.end c.share_reading.new.self c.settle_days.new.self) from
    (subst (λ (n : ℕ). ChangesOnlyDays c.from.result.from n c.share_reading.new.self c.settle_days.new.self) to c.settle_days.ensures.stands) in
    let notes = c.share_reading.ensures.notes ∙ c.extend_cover.ensures.notes in
    let stand : ChangesOnlyNotes c.args.reading.now.start c.args.reading.now.end c.share_reading.new.self c.settle_days.new.self =
    subst (λ (n : ℕ). ChangesOnlyNotes n c.args.reading.now.end c.share_reading.new.self c.settle_days.new.self) from
    (subst (λ (n : ℕ). ChangesOnlyNotes c.from.result.from n c.share_reading.new.self c.settle_days.new.self) to c.settle_days.ensures.notes) in
    sheet_after_reading s h r ledger lawful follows old knowing is_sheet learned inside c.settle_days.new.self (only_again only settled) (notes_again notes stand) lies.last
    (λ d low high.
    c.settle_days.ensures.law s _ (knows_only only knows) on
    (λ e first last. ready_after_reading s h r ledger lawful follows old knowing is_sheet learned inside sharing shared notes e (omega (arith, knows.days, lies.last, to, last))) d (omega (arith, from, low)) (omega (arith, to, high)))
