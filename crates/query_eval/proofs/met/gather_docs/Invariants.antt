use Rattle.std.proofs.Common.{◌≡◌, ◌++◌, drop}
use Rattle.query_eval.specs.Met.{all_met}
use Rattle.query_eval.proofs.met.gather_docs.Given as goal

abbrev pub invariant-loop-part : goal.invariant-loop-part
invariant-loop-part l = l.docs.items ++ all_met l.span.from l.span.to (drop l.part-index l.parts) ≡ all_met l.span.from l.span.to l.parts
