use Rattle.std.proofs.Common.{arith, ◌++◌, filter, ap, ◌∙◌}
use Rattle.lists_postings.specs.Lists.{meets}
use Rattle.lists_tails.proofs.Located.{kept-more}
use Rattle.lists_tails.proofs.parts.collect_in.Goals as goal

pub loop-block-preserved : goal.loop-block-preserved
loop-block-preserved c =
    kept-more (meets c.args.span.from c.args.span.to) c.args.first.now.items c.args.later.now c.loop-block.block-index c.block-item.result c.loop-block.rows.items c.push_in-in-loop-block.new.rows.items (omega (arith, c.loop-block-test.true)) c.block-item.is c.loop-block.invariant
    (c.in_ok-push_in-2.ensures ∙ ap (λ w. c.loop-block.rows.items ++ filter (meets c.args.span.from c.args.span.to) w) c.as_slice-in-loop-block.ensures.value)
