use Rattle.std.proofs.Common.{arith, rules}
use Rattle.apportion.specs.Numerals.{IsNumeral}
use Rattle.apportion.proofs.Numerals.{parsed_is, unparsed_is}
use Rattle.apportion.proofs.words.number_up_to.Goals as goal

pub returns-in-Ok : goal.returns-in-Ok
returns-in-Ok c =
    let numeral : IsNumeral c.args.word.now = search rules in
    let read = parsed_is c.parse.result c.args.word.now c.in-Ok.number c.in-Ok.is numeral c.parse.ensures.value.0 in
    (numeral, omega (arith, read), omega arith)

pub returns-in_default : goal.returns-in_default
returns-in_default c =
    let numeral : IsNumeral c.args.word.now = search rules in
    let read = parsed_is c.parse.result c.args.word.now c.in-Ok.number c.in-Ok.is numeral c.parse.ensures.value.0 in
    (numeral, omega (arith, read))

pub returns-in_default-2 : goal.returns-in_default-2
returns-in_default-2 c =
    let numeral : IsNumeral c.args.word.now = search rules in
    (numeral, omega (arith, unparsed_is c.parse.result c.args.word.now c.in_default.field-0 c.in_default.is numeral c.parse.ensures.value.0))
