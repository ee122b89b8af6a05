use Rattle.std.proofs.Common.{◌≡◌, ◌≤◌, ◌*◌, take}
use Rattle.query_eval.specs.Found.{read_of}
use Rattle.query_eval.proofs.found.read_of.Given as goal

abbrev pub invariant-loop-part : goal.invariant-loop-part
invariant-loop-part l = (l.read ≡ read_of (take l.part-index l.parts)) × (l.read ≤ 1099511627776 * l.part-index)
