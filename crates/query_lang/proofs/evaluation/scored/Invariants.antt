use Rattle.std.proofs.Common.{◌≡◌, ◌+◌, ◌*◌, ◌≤◌, drop}
use Rattle.query_lang.specs.Evaluation.{scored}
use Rattle.query_lang.proofs.evaluation.scored.Given as goal

abbrev pub invariant-loop-place : goal.invariant-loop-place
invariant-loop-place l =
    (l.score + scored (drop l.place l.weights) (drop l.place l.counts) ≡ scored l.weights l.counts)
    × (l.score ≤ 4294967296000 * l.place)
