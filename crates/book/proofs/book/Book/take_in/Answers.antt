use Rattle.std.proofs.Common.{Result, sym, ◌∙◌, subst}
use Rattle.std.proofs.lemmas.Result.{err_from_is_err_and}
use Rattle.rules.specs.declared.entry.Entry.{Entry}
use Rattle.terms.specs.Refusal.{number_of}
use Rattle.terms.specs.declared.refusal.Refusal.{Refusal}
use Rattle.sheet.specs.declared.sheet.Sheet.{Sheet}
use Rattle.book.proofs.Calls.{accepted_entry, entry_granted, ledger_follows, no_count_entry, refusal_answers, refused_follows}
use Rattle.book.proofs.book.Book.take_in.Goals as goal
use Rattle.ledger.specs.Ledger.{EntersByLaw}
use Rattle.sheet.specs.SheetOfHistory.{IsSheetOf}

pub returns-in_err-entry-clause-law : goal.returns-in_err-entry-clause-law
returns-in_err-entry-clause-law g c =
    let p = err_from_is_err_and c.from_residual.result c.from_residual.ensures.1 in
    let book = c.args.self.now in
    let e = c.in_err-entry.field-0.0 in
    rw (p.1, p.2) (λ call b answered. record {
      law = λ case f.
          let told = subst (λ (r : Result Entry Refusal). EntersByLaw call b.ledger r book.ledger) c.in_err-entry.was answered.answered case.setting case.history f.entries in (
            refusal_answers case call e told.0.0 told.0.1,
            refused_follows case call (number_of e) book _ told.0.0 (ledger_follows f told.1 answered.beyond answered.sheet),
          );
    })

pub returns-clause-law : goal.returns-clause-law
returns-clause-law g c = λ call b answered. record {
  law = λ case f.
      let book = c.args.self.now in
      let entry = c.in_ok-entry.entry in
      let told = subst (λ (r : Result Entry Refusal). EntersByLaw call b.ledger r book.ledger) c.in_ok-entry.was answered.answered case.setting case.history f.entries in
      let done = accepted_entry case call entry book.ledger b c.follow.new.self _ f told.0 told.1 answered.beyond c.follow.ensures.ledger (no_count_entry case.setting call answered.no_count)
      (λ lawful entries on stood. c.follow.ensures.law case.setting _ case.history lawful entries on (subst (λ (x : Sheet). IsSheetOf case.setting case.rest.sheet case.history x) (sym answered.sheet) stood)) in
      (entry_granted case.setting case.history call entry told.0.1 ∙ done.0, done.1);
}
