use Rattle.std.proofs.Common.{drop}
use Rattle.lists_approx.specs.Steps.{IsUnderWay}
use Rattle.lists_approx.proofs.approximating.approximate.Given as goal

abbrev pub invariant-loop-p : goal.invariant-loop-p
invariant-loop-p l = IsUnderWay l.tolerance l.fn.list l.done.items l.run.posting l.run.most (drop l.p-index l.others)
