use Rattle.std.proofs.Common.{◌≡◌, take}
use Rattle.lists_index.specs.Measuring.{pairs_of}
use Rattle.lists_index.proofs.measure.weights_by.Given as goal

abbrev pub invariant-loop-number : goal.invariant-loop-number
invariant-loop-number l = pairs_of l.items.items ≡ take l.number-index l.number-items
