use Rattle.std.proofs.Common.{◌+◌, length, vec_items}
use Rattle.apportion.specs.Request.{texts}
use Rattle.apportion.proofs.Requests.{ReadSoFar}
use Rattle.apportion.proofs.request.read_request.Given as goal

abbrev pub invariant-loop-index : goal.invariant-loop-index
invariant-loop-index l = ReadSoFar (texts l.words) (length l.yielded + 1) l.energy (vec_items l.loads)
