use Rattle.std.proofs.Common.{◌≡◌, ◌++◌, take}
use Rattle.lists_postings.specs.Lists.{sublist}
use Rattle.lists_tails.specs.Blocks.{joined}
use Rattle.lists_tails.proofs.parts.collect_in.Given as goal

abbrev pub invariant-loop-block : goal.invariant-loop-block
invariant-loop-block l = l.rows.items ≡ sublist l.span.from l.span.to (l.first.items ++ joined (take l.block-index l.later))
