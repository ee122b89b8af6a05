use Rattle.std.proofs.Common.{arith, rules, ◌+◌, ◌≡◌, length, vec_len}
use Rattle.std.proofs.lemmas.List.{length-append}
use Rattle.lists_tails.specs.Blocks.{joined}
use Rattle.lists_tails.proofs.Located.{length-more, length-part}
use Rattle.lists_tails.proofs.parts.count.Goals as goal

pub loop-block-preserved : goal.loop-block-preserved
loop-block-preserved c = λ b.
    let n : vec_len c.block-item.result ≡ length c.block-item.result.items = search rules in
    let i = length-more c.args.later.now c.loop-block.block-index c.block-item.result (omega (arith, c.loop-block-test.true)) c.block-item.is in
    omega (arith, c.loop-block.invariant b, i, n, b, length-part c.args.later.now (c.loop-block.block-index + 1), length-append c.args.first.now.items (joined c.args.later.now), c.saturating_add-count.ensures, c.len.ensures)
