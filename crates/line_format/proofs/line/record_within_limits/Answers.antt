use Rattle.std.proofs.Common.{sym, inl, inr}
use Rattle.line_format.proofs.Exits.{at_exit}
use Rattle.line_format.specs.Line.{ChecksRecord}
use Rattle.line_format.proofs.line.record_within_limits.Goals as goal

pub returns-in_err-record : goal.returns-in_err-record
returns-in_err-record c =
    at_exit (ChecksRecord c.args.bytes.now c.args.limits) _ _ c.from_residual.ensures (inl c.in_err-record.ensures.read)

pub returns-in_err-check_limits : goal.returns-in_err-check_limits
returns-in_err-check_limits c =
    let read = c.in_ok-record.ensures.read in
    at_exit (ChecksRecord c.args.bytes.now c.args.limits) _ _ c.from_residual-in_err-check_limits.ensures (inr (c.in_ok-record.record, read.0, read.1, sym c.in_err-check_limits.ensures))
