use Rattle.std.proofs.Common.{arith, ◌++◌, ap, ◌∙◌}
use Rattle.lists_tails.proofs.Located.{gathered-more}
use Rattle.lists_tails.proofs.parts.collect_all.Goals as goal

pub loop-block-preserved : goal.loop-block-preserved
loop-block-preserved c =
    gathered-more c.args.first.now.items c.args.later.now c.loop-block.block-index c.block-item.result c.loop-block.list.items c.extend_from_slice-in-loop-block.new.self.items (omega (arith, c.loop-block-test.true)) c.block-item.is c.loop-block.invariant
    (c.in_ok-extend_from_slice-2.ensures.items ∙ ap (λ w. c.loop-block.list.items ++ w) c.as_slice-in-loop-block.ensures.value)
