use Rattle.std.proofs.Common.{arith, rules, ◌≡◌, length, vec_len}
use Rattle.lists_tails.proofs.Located.{joined-removed}
use Rattle.lists_tails.proofs.blocks.drop_empty.Goals as goal

pub returns-then-is_empty-clause-same : goal.returns-then-is_empty-clause-same
returns-then-is_empty-clause-same c =
    let n : vec_len c.args.later.now ≡ length c.args.later.now.items = search rules in
    let e : length c.index.result.now.items ≡ 0 = search rules in
    rw (c.remove.ensures.items) (joined-removed c.args.later.now.items c.args.place c.index.result.now (omega (arith, n, c.requires.inside)) c.index.ensures e)
