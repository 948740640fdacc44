use Rattle.std.proofs.Common.{◌≡◌, ◌<◌, length, get_or, [], ◌∷◌, ◌++◌, Ok, subst, arith, rules}
use Rattle.line_format.proofs.Exits.{at_exit}
use Rattle.line_format.specs.Record.{blank_field, letter_content, WritesField, WritesLine}
use Rattle.line_format.proofs.LineBytes.{front_of_tag, front_of_field, field_written, length_fields, line_written, field_unfit}
use Rattle.line_format.proofs.record.joined_line.Goals as goal

pub loop-place-init : goal.loop-place-init
loop-place-init c = λ cs w. front_of_tag _ cs _ _ [] c.from.ensures (search rules) c.put.ensures

pub loop-place-preserved : goal.loop-place-preserved
loop-place-preserved c =
    λ cs w.
    let four : length c.args.fields.now ≡ 4 = search rules in
    let inside : c.loop-place.place < length c.args.fields.now = omega (arith, c.loop-place-test.true) in
    let same = length_fields cs c.args.fields.now w in
    let field = subst (WritesField (get_or cs c.loop-place.place blank_field)) c.in_ok-field.was (field_written cs c.args.fields.now c.loop-place.place (Ok []) inside w) in
    front_of_field _ cs c.loop-place.place _ _ _ (omega (arith, inside)) (search rules) field (c.loop-place.invariant cs w) c.put-in-loop-place.ensures

pub returns-in_err-field : goal.returns-in_err-field
returns-in_err-field c =
    λ cs w.
    let four : length c.args.fields.now ≡ 4 = search rules in
    let inside : c.loop-place.place < length c.args.fields.now = omega (arith, c.loop-place-test.true) in
    let same = length_fields cs c.args.fields.now w in
    let field = subst (WritesField (get_or cs c.loop-place.place blank_field)) c.in_err-field.was (field_written cs c.args.fields.now c.loop-place.place (Ok []) inside w) in
    at_exit (WritesLine c.args.tag (cs ++ letter_content c.args.letter ∷ [])) _ _ c.from_residual.ensures (field_unfit c.args.tag cs c.args.letter c.loop-place.place _ (omega (arith, inside)) field)

pub returns : goal.returns
returns c =
    λ cs w.
    let four : length c.args.fields.now ≡ 4 = search rules in
    let same = length_fields cs c.args.fields.now w in
    line_written _ cs c.args.letter _ _ _ _ c.put-2.array_long (omega (arith, c.loop-place-test.false, c.loop-place.auto.place-end)) (omega arith) (c.loop-place.invariant cs w) c.letter_byte.ensures c.put-2.ensures
