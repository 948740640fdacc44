use Rattle.std.proofs.Common.{◌+◌, sym, ◌∙◌, subst}
use Rattle.sheet.specs.SheetOfHistory.{IsTrueNote}
use Rattle.sheet.proofs.Changes.{only_again}
use Rattle.sheet.proofs.DayNotes.{note_here, note_settled, noted_only, others_stand}
use Rattle.sheet.proofs.GeneratedFigures.{generated_shows}
use Rattle.sheet.proofs.sheet.Sheet.settle_day.Goals as goal

pub returns : goal.returns
returns g c =
    let shown = c.show_generated.ensures in
    let noted = c.set_note.ensures.after in
    record {
      stands = only_again shown.stands (noted_only c.args.day (c.args.day + 1) noted);
      notes = others_stand c.args.self.now c.show_generated.new.self c.set_note.new.self shown.notes noted;
      law = λ s h knows on supplied.
          let made = c.generate-note.ensures s h knows on supplied in
          let shows = generated_shows s h c.args.day c.args.self.now c.show_generated.new.self c.set_note.new.self _ supplied (shown.law s h knows) made.0 noted in (
            shows,
            subst (IsTrueNote s h c.set_note.new.self c.args.day) (sym (note_here noted c.set_note.ensures.within ∙ made.1)) (note_settled s h c.set_note.new.self c.args.day shows),
          );
    }
