use Rattle.std.proofs.Common.{◌≡◌, true, map, refl, ◌∙◌, arith}
use Rattle.terms.specs.Answers.{accepted_since}
use Rattle.allocation.specs.ShareLaws.{shares_share_out}
use Rattle.allocation.specs.Sharing.{can_share}
use Rattle.allocation.proofs.Turns.{turn, taken_none, taken_more, taken_all}
use Rattle.allocation.proofs.sharing.share.Goals as goal

pub returns-in_err-total-clause-keeps : goal.returns-in_err-total-clause-keeps
returns-in_err-total-clause-keeps g c = shares_share_out _ _

pub loop-row-init : goal.loop-row-init
loop-row-init g c = taken_none g.R.Row.weight g.R.Row.with_share c.args.amount c.args.rows.now

pub take_share-progress-requires : goal.take_share-progress-requires
take_share-progress-requires g c =
    let accepted = accepted_since _ _ _ _ c.in_ok-total.ensures in
    let t = turn c.loop-row.invariant g.met.R.Row.within_largest accepted.0 (c.new-divisor.ensures ∙ accepted.1) c.loop-row-test.true c.row-item.result refl in
    record { some = t.some; fits = omega (arith, t.fits); grows = t.grows }

pub loop-row-preserved : goal.loop-row-preserved
loop-row-preserved g c =
    let accepted = accepted_since _ _ _ _ c.in_ok-total.ensures in
    let done = c.take_share-progress.ensures in
    taken_more c.loop-row.invariant g.met.R.Row.within_largest accepted.0 (c.new-divisor.ensures ∙ accepted.1)
    c.loop-row-test.true c.row-item.result done.weight_sum done.share_sum done.row

pub returns-clause-rows : goal.returns-clause-rows
returns-clause-rows g c =
    let can : can_share g.R.Row.LARGEST c.args.amount (map g.R.Row.weight c.args.rows.now) ≡ true = (accepted_since _ _ _ _ c.in_ok-total.ensures).0 in
    rw can (taken_all c.loop-row.invariant c.loop-row-test.false)

pub returns-clause-keeps : goal.returns-clause-keeps
returns-clause-keeps g c = shares_share_out _ _
