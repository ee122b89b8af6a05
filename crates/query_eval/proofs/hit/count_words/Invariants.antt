use Rattle.std.proofs.Common.{◌≡◌, ◌<◌, ◌≤◌, ℕ, length, slice_index, drop}
use Rattle.query_eval.specs.Hits.{found}
use Rattle.query_eval.proofs.hit.count_words.Given as goal

abbrev pub invariant-loop-i : goal.invariant-loop-i
invariant-loop-i l = (l.i ≤ length l.group) × ((k : ℕ) → k < length l.counts → slice_index l.counts k ≡ found (drop l.i l.group) k)

abbrev pub decreases-loop-i : goal.decreases-loop-i
decreases-loop-i l = l.i
