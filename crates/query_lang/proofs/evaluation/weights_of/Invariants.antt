use Rattle.std.proofs.Common.{◌≡◌, ℕ, ◌<◌, length, get_or, take}
use Rattle.query_lang.specs.Evaluation.{most_at}
use Rattle.query_lang.proofs.evaluation.weights_of.Given as goal

abbrev pub invariant-loop-op : goal.invariant-loop-op
invariant-loop-op l = record { count : length l.weights.items ≡ l.words; weights : (k : ℕ) → k < l.words → get_or l.weights.items k 0 ≡ most_at k (take l.op-index l.ops) }
