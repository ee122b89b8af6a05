use Rattle.std.proofs.Common.{◌≡◌, ◌++◌, take}
use Rattle.query_eval.specs.Met.{met_in}
use Rattle.query_eval.proofs.met.note_docs.Given as goal

abbrev pub invariant-loop-p : goal.invariant-loop-p
invariant-loop-p l = l.docs.items ≡ l.fn.docs.items ++ met_in l.span.from l.span.to (take l.p-index l.list)
