use Rattle.std.proofs.Common.{◌≡◌, ◌+◌, ◌<◌, length, set, to_z, of_z, w64, ap, ◌∙◌, arith}
use lib.Seq.{paste}
use Rattle.std.proofs.lemmas.Int.{ints}
use Rattle.std.proofs.lemmas.List.Edits.{paste_none}
use Rattle.statements.specs.Lists.{listed}
use Rattle.statements.proofs.Adjustments.{written_all, written_more}
use Rattle.statements.proofs.sums.Sums.write_numbers.Goals as goal

pub loop-place-init : goal.loop-place-init
loop-place-init g c = λ f law. paste_none c.args.list.now c.args.from (listed f)

pub loop-place-preserved : goal.loop-place-preserved
loop-place-preserved g c = λ f law.
    let place = c.loop-place.place in
    let at = c.args.from + place in
    let written : to_z w64 (of_z w64 c.number.result) ≡ c.number.result = omega (arith, ints) in
    let inside : c.args.from + c.loop-place.place < length c.args.list.now = omega (arith, c.requires.room, c.loop-place-test.true) in
    (λ i. set (c.loop-place.invariant f law i) at (written i))
    ∙ written_more f c.args.list.now c.args.from place c.number.result inside c.loop-place-test.true (law place c.number.result c.loop-place-test.true c.number.ensures)

pub returns : goal.returns
returns g c = λ f law.
    let all : c.loop-place.place ≡ 17 = omega (arith, c.loop-place-test.false, c.loop-place.auto.place-end) in
    c.loop-place.invariant f law ∙ ap (λ n. paste c.args.list.now c.args.from (listed f) n) all ∙ written_all f c.args.list.now c.args.from
