use Rattle.std.proofs.Common.{◌≡◌, ◌++◌, drop}
use Rattle.query_eval.specs.Hits.{gathered}
use Rattle.query_eval.proofs.hit.gather.Given as goal

abbrev pub invariant-loop-place : goal.invariant-loop-place
invariant-loop-place l = l.hits.items ++ gathered l.t.seconds l.place (drop l.place l.parts) ≡ gathered l.t.seconds 0 l.parts
