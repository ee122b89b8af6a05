use Rattle.std.proofs.Common.{drop}
use Rattle.lists_postings.specs.Coalescing.{IsUnderWay}
use Rattle.lists_postings.proofs.coalescing.coalesce.Given as goal

abbrev pub invariant-loop-p : goal.invariant-loop-p
invariant-loop-p l = IsUnderWay l.fn.list l.done.items l.current (drop l.p-index l.others)
