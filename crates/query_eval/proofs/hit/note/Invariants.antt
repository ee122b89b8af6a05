use Rattle.std.proofs.Common.{◌≡◌, ◌++◌, take}
use Rattle.query_eval.specs.Hits.{hits_in}
use Rattle.query_eval.proofs.hit.note.Given as goal

abbrev pub invariant-loop-p : goal.invariant-loop-p
invariant-loop-p l = l.hits.items ≡ l.fn.hits.items ++ hits_in l.t.seconds l.place (take l.p-index l.list)
