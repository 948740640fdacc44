use Rattle.std.proofs.Common.{◌-◌, not, get_or, is_some, None, sym, ◌∙◌, arith, rules, tests, refl}
use Rattle.std.proofs.lemmas.Iterator.{YieldsList-from_range}
use Rattle.std.proofs.lemmas.Iterator.Search.{find_from_yields_List}
use Rattle.ledger.proofs.Loads.{first_followed, mapped_same}
use Rattle.ledger.proofs.ledger.Ledger.first_without_load.Goals as goal

pub returns-clause-law : goal.returns-clause-law
returns-clause-law c = λ s h f.
    sym (mapped_same c.find.result)
    ∙ find_from_yields_List (λ day. not (is_some (get_or c.args.self.now.gates day None))) _ _ c.find.result c.find.ensures.ran
    (YieldsList-from_range c.args.start c.args.end (c.args.end - c.args.start) refl refl) (λ x b q k. search (rules, tests))
    ∙ first_followed (c.args.end - c.args.start) c.args.start f (λ some. omega (arith, c.requires))
