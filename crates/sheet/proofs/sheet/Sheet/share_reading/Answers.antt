use Rattle.std.proofs.Common.{◌≡◌, ◌-◌, length, rules, ◌∙◌}
use Rattle.sheet.proofs.ReadingShares.{days_shareable, row_weighs, spread_shown}
use Rattle.sheet.proofs.ScaledEstimates.{accepted_ok}
use Rattle.sheet.proofs.sheet.Sheet.share_reading.Goals as goal

pub unwrap-requires : goal.unwrap-requires
unwrap-requires c =
    let many : length c.args.self.now.reading_days ≡ 400 = search rules in
    let loads : length c.args.self.now.loads ≡ 400 = search rules in
    accepted_ok c.share.result _ 3 (days_shareable c.args.self.now many loads c.args.reading.now c.requires) c.share.ensures.answer

pub invariant_of-self : goal.invariant_of-self
invariant_of-self c =
    let b = c.args.self.now in
    let r = c.args.reading.now in
    record {
      few_days = b.few_days;
      few_points = b.few_points;
      long = b.long;
      loads_within = b.loads_within;
      weighed_by_loads = row_weighs b.reading_days c.share.new.rows r.start (r.end - r.start) r.energy c.share.ensures.rows ∙ b.weighed_by_loads;
    }

pub returns-clause-law : goal.returns-clause-law
returns-clause-law c = λ l s h knows.
    let many : length c.args.self.now.reading_days ≡ 400 = search rules in
    let loads : length c.args.self.now.loads ≡ 400 = search rules in
    spread_shown knows many loads c.args.reading.now c.share.new.rows c.show_shares.new.self c.requires
    (days_shareable c.args.self.now many loads c.args.reading.now c.requires) c.share.ensures.rows (search rules) c.show_shares.ensures.figures
