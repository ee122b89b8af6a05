use Rattle.std.proofs.Common.{◌≡◌, ◌++◌, take}
use Rattle.lists_index.specs.Measuring.{numbered}
use Rattle.lists_index.proofs.measure.number_counts.Given as goal

abbrev pub invariant-loop-i : goal.invariant-loop-i
invariant-loop-i l = l.counts.items ≡ l.fn.known.items ++ numbered l.words (take l.i l.fresh)
