use Rattle.std.proofs.Common.{◌<◌, ◌≤◌, length, drop}
use Rattle.query_top.specs.Firsts.{Each}
use Rattle.query_top.proofs.ranking.place_of.Given as goal

abbrev pub invariant-loop-place : goal.invariant-loop-place
invariant-loop-place l = (l.place ≤ length l.rows) × Each (λ r. r.score < l.score) (drop l.place l.rows)

abbrev pub decreases-loop-place : goal.decreases-loop-place
decreases-loop-place l = l.place
