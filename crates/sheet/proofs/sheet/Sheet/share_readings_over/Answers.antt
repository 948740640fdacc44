use Rattle.std.proofs.Common.{◌≡◌, ℕ, ◌+◌, min, max, List, length, get_or, None, vec_items, Option, sym, ap, ◌∙◌, arith}
use Rattle.rules.specs.History.{History, Setting}
use Rattle.rules.specs.declared.entry.Reading.{Reading}
use Rattle.sheet.specs.SheetOfHistory.{KnowsHistory}
use Rattle.sheet.specs.declared.day_range.DayRange.{DayRange}
use Rattle.sheet.specs.declared.sheet.Sheet.{Sheet}
use Rattle.sheet.proofs.Changes.{knows_only}
use Rattle.sheet.proofs.JoinedReadings.{SharesFirstPlaces, LiesBetween, holds_of_equal, placed_found, placed_lies, placed_not_found, shared_all, shared_more, shared_skip, lies_between_more}
use Rattle.sheet.proofs.sheet.Sheet.share_readings_over.Goals as goal
use Rattle.sheet.proofs.sheet.Sheet.share_readings_over.Goals.{in-Some, in_default}

pub loop-place-preserved : goal.loop-place-preserved
loop-place-preserved c =
    let ledger = c.args.ledger.now in
    let old = c.args.self.now in
    let b = c.loop-place.self in
    let day = c.args.day in
    let i = c.loop-place.place-index in
    let from = c.loop-place.days.from in
    let to = c.loop-place.days.to in
    let between = c.loop-place.invariant.0 in
    let notes = c.loop-place.invariant.2 in
    let place = get_or c.places-place-items.result.now i None in
    let stands_at : place ≡ get_or (vec_items ledger.places) i None = ap (λ (ps : List (Option Reading)). get_or ps i None) c.places-place-items.ensures in
    let Kept : ℕ → ℕ → Sheet → Type 0 = λ f t x.
    LiesBetween day f t old x × ((s : Setting) (h : History) → KnowsHistory s h ledger old → SharesFirstPlaces s h (vec_items ledger.places) (i + 1) day f t old x) × (x.notes ≡ old.notes) in
    elim c.match-reading_over.branch [
      | in-Some w ↦
          let reading = w.in-Some.reading in
          let told_of = w.in-Some.ensures in
          let new = w.share_reading.new.self in
          holds_of_equal Kept (min from reading.start) c.match-reading_over.days.from (max to reading.end) c.match-reading_over.days.to new c.match-reading_over.self
          (ap (λ (x : DayRange). x.from) w.days-is ∙ w.including-days.ensures.from) (ap (λ (x : DayRange). x.to) w.days-is ∙ w.including-days.ensures.to) w.self-is (
            lies_between_more day from to reading between told_of.lies w.share_reading.ensures.stands,
            λ s h knows.
                let so_far = c.loop-place.invariant.1 s h knows in
                let found = placed_found b day place reading told_of.free told_of.law (λ r is. placed_lies day i from to knows between so_far i r (sym stands_at ∙ is)) in
                let is = sym stands_at ∙ found.0 in
                let knows_now = knows_only between.only knows in
                shared_more day i from to knows between so_far new reading is found.1
                (w.share_reading.ensures.law ledger s h knows_now),
            w.share_reading.ensures.notes ∙ notes,
          )
      | in_default w ↦
          holds_of_equal Kept from c.match-reading_over.days.from to c.match-reading_over.days.to b c.match-reading_over.self (ap (λ (x : DayRange). x.from) w.days-is)
          (ap (λ (x : DayRange). x.to) w.days-is) w.self-is (
            between,
            λ s h knows.
                let so_far = c.loop-place.invariant.1 s h knows in
                shared_skip day i from to knows between so_far
                (λ r is. placed_not_found b day place w.in_default.ensures.law r (stands_at ∙ is) (placed_lies day i from to knows between so_far i r is)),
            notes,
          )
    ]

pub returns-clause-law : goal.returns-clause-law
returns-clause-law c = λ s h knows.
    shared_all c.args.day c.loop-place.place-index c.loop-place.days.from c.loop-place.days.to knows
    (omega (arith, ap length c.places-place-items.ensures, c.loop-place-test.false)) (c.loop-place.invariant.1 s h knows)
