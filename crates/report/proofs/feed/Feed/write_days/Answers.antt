use Rattle.std.proofs.Common.{List, ℕ, sym, subst}
use Rattle.std.proofs.KnownBytes.{Appends-trans}
use Rattle.std.specs.Io.KnownBytes.{Appends}
use Rattle.report.proofs.DayLineLemmas.{days_before, days_more}
use Rattle.report.proofs.feed.Feed.write_days.Goals as goal

pub loop-day-preserved : goal.loop-day-preserved
loop-day-preserved g c = λ k t stands.
    subst (λ (xs : List ℕ). Appends (g.W.Write.contents c.args.output.now) (g.W.Write.contents c.write_day.new.output) xs) (sym (days_more t c.loop-day.day))
    (Appends-trans _ _ _ (days_before t c.loop-day.day) _ (c.loop-day.invariant k t stands) (c.in_ok-write_day.ensures k t stands))
