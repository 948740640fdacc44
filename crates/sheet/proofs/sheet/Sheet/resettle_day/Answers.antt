use Rattle.sheet.proofs.sheet.Sheet.resettle_day.Goals as goal

pub returns-else-not-stands_by_its_note-clause-law : goal.returns-else-not-stands_by_its_note-clause-law
returns-else-not-stands_by_its_note-clause-law g c = λ s h knows on ready. (c.stands_by_its_note.ensures.law _ s h knows ready c.if-not-stands_by_its_note.false, ready.1)
