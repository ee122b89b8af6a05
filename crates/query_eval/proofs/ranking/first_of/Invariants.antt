use Rattle.std.proofs.Common.{take}
use Rattle.query_eval.specs.Firsts.{IsFront}
use Rattle.query_eval.proofs.ranking.first_of.Given as goal

abbrev pub invariant-loop-row : goal.invariant-loop-row
invariant-loop-row l = IsFront l.count (take l.row-index l.row-items) l.front.rows.items l.front.last
