use Rattle.std.proofs.Common.{◌≡◌, ◌++◌, drop}
use Rattle.query_eval.specs.Found.{once}
use Rattle.query_eval.proofs.ranking.once.Given as goal

abbrev pub invariant-loop-i : goal.invariant-loop-i
invariant-loop-i l = l.all.items ++ once (drop l.i l.rows) ≡ once l.rows
