use Rattle.std.proofs.Common.{set, refl, ap, sym, ◌∙◌}
use Rattle.std.proofs.lemmas.List.{map-set}
use Rattle.estimators.proofs.Tables.{written_passes}
use Rattle.allocation.specs.declared.reading_day.ReadingDay.{ReadingDay}
use Rattle.sheet.specs.DayWeights.{load_within, weight_of_load, weights_of_days}
use Rattle.sheet.proofs.ScaledEstimates.{load_passes}
use Rattle.sheet.proofs.sheet.Sheet.set_load.Goals as goal

pub invariant_of-self : goal.invariant_of-self
invariant_of-self c =
    let b = c.args.self.now in
    record {
      few_days = b.few_days;
      few_points = b.few_points;
      long = b.long;
      loads_within = written_passes load_within b.loads c.args.day c.load-load.result (load_passes c.load-load.result c.load-load.ensures.bound) b.loads_within;
      weighed_by_loads =
          map-set (λ (row : ReadingDay). row.weight) b.reading_days c.args.day c.reading_day_of.result
          ∙ ap (set (weights_of_days b.reading_days) c.args.day) c.reading_day_of.ensures
          ∙ ap (λ ws. set ws c.args.day (weight_of_load c.load-load.result)) b.weighed_by_loads
          ∙ sym (map-set weight_of_load b.loads c.args.day c.load-load.result);
    }

pub returns-clause-after : goal.returns-clause-after
returns-clause-after c = λ s h follows. record { days = refl; points = refl; figures = refl; loads = ap (set c.args.self.now.loads c.args.day) (c.load-load.ensures.law s h follows); covered = refl }
