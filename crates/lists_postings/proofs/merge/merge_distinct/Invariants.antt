use Rattle.std.proofs.Common.{◌+◌, length}
use Rattle.lists_postings.specs.Placings.{AreMerged}
use Rattle.lists_postings.proofs.merge.merge_distinct.Given as goal

abbrev pub invariant-postings : goal.invariant-postings
invariant-postings l = AreMerged l.fn.one l.fn.other l.merged.items l.left l.right

abbrev pub decreases-postings : goal.decreases-postings
decreases-postings l = length l.left + length l.right
