use Rattle.std.proofs.Common.{◌≡◌, [], drop}
use Rattle.query_lang.specs.Evaluation.{truths_of, count_of}
use Rattle.query_lang.proofs.evaluation.evaluated.Given as goal

abbrev pub invariant-loop-op : goal.invariant-loop-op
invariant-loop-op l = truths_of (count_of l.counts) (drop l.op-index l.ops) l.truths ≡ truths_of (count_of l.counts) l.ops []
