use Rattle.std.proofs.Common.{◌≡◌, true, take, sym, ap, ◌∙◌}
use Rattle.line_format.proofs.Exits.{at_exit}
use Rattle.line_format.specs.Line.{ReadsLine, wrong_length, unknown_tag, is_line}
use Rattle.line_format.proofs.OneWriting.{line_read, reads_back, one_column}
use Rattle.line_format.proofs.line.read_line.Goals as goal

pub returns-in_err-line : goal.returns-in_err-line
returns-in_err-line c =
    let q = c.in_err-line.ensures in
    let read = at_exit (ReadsLine c.args.bytes.now) _ _ c.from_residual.ensures (q.0, wrong_length q.2 q.1) in
    record { read = read; reads_back = reads_back c.args.bytes.now _ read; one_column = one_column c.args.bytes.now _ read }

pub returns-in_err-tag : goal.returns-in_err-tag
returns-in_err-tag c =
    let line = c.in_ok-line.line in
    let same = c.in_ok-line.ensures in
    let complete : is_line c.args.bytes.now ≡ true = sym (ap is_line same) ∙ line.complete in
    let q = c.in_err-tag.ensures in
    let read = at_exit (ReadsLine c.args.bytes.now) _ _ c.from_residual-in_err-tag.ensures (q.0, unknown_tag complete (λ t e. q.2 t (ap (take 4) same ∙ e)) q.1) in
    record { read = read; reads_back = reads_back c.args.bytes.now _ read; one_column = one_column c.args.bytes.now _ read }

pub returns : goal.returns
returns c =
    let line = c.in_ok-line.line in
    let read = line_read c.args.bytes.now _ _ _ c.in_ok-line.ensures line.complete c.in_ok-tag.ensures c.record.ensures in
    record { read = read; reads_back = reads_back c.args.bytes.now _ read; one_column = one_column c.args.bytes.now _ read }
