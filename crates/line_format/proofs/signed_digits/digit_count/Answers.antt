use Rattle.std.proofs.Common.{◌+◌, ap, ◌∙◌, arith}
use Rattle.line_format.proofs.Decimal.{counted}
use Rattle.line_format.proofs.signed_digits.digit_count.Goals as goal

pub returns : goal.returns
returns c =
    let log = c.checked_ilog10.ensures in
    ap (λ n. n + 1) c.unwrap_or.ensures ∙ counted c.args.value c.checked_ilog10.result (omega arith) log.none log.power_le log.next_power_gt
