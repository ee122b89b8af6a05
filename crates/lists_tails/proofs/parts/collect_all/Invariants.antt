use Rattle.std.proofs.Common.{◌≡◌, ◌++◌, take}
use Rattle.lists_tails.specs.Blocks.{joined}
use Rattle.lists_tails.proofs.parts.collect_all.Given as goal

abbrev pub invariant-loop-block : goal.invariant-loop-block
invariant-loop-block l = l.list.items ≡ l.first.items ++ joined (take l.block-index l.later)
