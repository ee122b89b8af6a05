use Rattle.std.proofs.Common.{◌≡◌, ◌+◌, ◌<◌, ◌^◌, ◌++◌, length, take}
use Rattle.lists_tails.specs.Blocks.{joined}
use Rattle.lists_tails.proofs.parts.count.Given as goal

abbrev pub invariant-loop-block : goal.invariant-loop-block
invariant-loop-block l = length (l.first.items ++ joined l.later) < 2 ^ 64 → l.count ≡ length l.first.items + length (joined (take l.block-index l.later))
