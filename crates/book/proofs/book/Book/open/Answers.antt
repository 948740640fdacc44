use Rattle.std.proofs.Common.{refl}
use Rattle.ledger.specs.declared.ledger.Lists.{Lists}
use Rattle.std.specs.Prelude.{vec_len}
use Rattle.book.proofs.Opening.{opened_beyond, opened_ledger, opened_sheet}
use Rattle.book.proofs.book.Book.open.Goals as goal
use Rattle.ledger.specs.Opening.{setting_of}

pub returns-in-Ok-clause-law : goal.returns-in-Ok-clause-law
returns-in-Ok-clause-law c =
    let q = c.args.request in
    let given : Lists = record { intervals = c.args.lists.intervals; places = c.args.lists.readings } in (
      c.in-Ok.ensures,
      λ m bounded bounded_under.
          let entries = opened_ledger q given c.open.result c.unwrap-ledger.result c.unwrap-ledger.ensures c.open.ensures.law m.current m.under in
          record {
            lawful = tt;
            limited = (bounded, bounded_under);
            entries = entries;
            figures = opened_sheet q.days q.points c.args.lists.sheet c.open-in-Ok.result c.unwrap-sheet.result c.unwrap-sheet.ensures c.open-in-Ok.ensures.stands
                (setting_of q (vec_len c.args.lists.readings) m.current m.under) refl refl;
            intervals = opened_beyond q given c.open.result c.unwrap-ledger.result c.unwrap-ledger.ensures c.open.ensures.law entries.days;
            estimates = λ d p. refl;
            weather = λ count p d. refl;
          },
    )
