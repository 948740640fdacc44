use Rattle.std.proofs.Common.{◌≡◌, not, eqb, ◌++◌, drop, replicate, sym, ◌∙◌, subst, rules, tests}
use Rattle.std.proofs.lemmas.Iterator.{YieldsList-from_slice}
use Rattle.std.proofs.lemmas.Iterator.Search.{position_from_yields_List}
use Rattle.line_format.proofs.Spaces.{spaces_first, spaces_found}
use Rattle.line_format.proofs.signed_digits.leading_spaces.Goals as goal

pub returns-clause-spaces : goal.returns-clause-spaces
returns-clause-spaces c =
    let bytes = c.args.bytes.now in
    let found = position_from_yields_List (λ b. not (eqb b 32)) _ _ c.position.result c.position.ensures.ran (YieldsList-from_slice bytes c.iter.ensures.rest) (λ x b q k. search (rules, tests)) in
    let same = c.unwrap_or.ensures ∙ spaces_found bytes c.position.result found in
    subst (λ n. bytes ≡ replicate n 32 ++ drop n bytes) (sym same) (spaces_first bytes)
