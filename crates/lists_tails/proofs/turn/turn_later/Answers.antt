use Rattle.std.proofs.Common.{arith, rules, ◌≡◌, length, vec_len, ap}
use Rattle.lists_tails.proofs.Located.{turned-later, longer-later}
use Rattle.lists_tails.proofs.turn.turn_later.Goals as goal

pub returns-clause-turned : goal.returns-clause-turned
returns-clause-turned c = λ front p.
    let n : vec_len c.args.later.now ≡ length c.args.later.now.items = search rules in
    rw (c.drop_empty.ensures.same) (turned-later c.args.doc.0 c.args.at.seconds c.args.old c.args.new front c.args.later.now.items c.args.place c.index_mut.result.now c.turn_within.new.list (omega (arith, n, c.requires.inside)) c.index_mut.ensures.value c.turn_within.ensures.turned c.requires.filled p)

pub returns-clause-longer : goal.returns-clause-longer
returns-clause-longer c =
    let n : vec_len c.args.later.now ≡ length c.args.later.now.items = search rules in
    let a : vec_len c.index_mut.result.now ≡ length c.index_mut.result.now.items = search rules in
    let b : vec_len c.turn_within.new.list ≡ length c.turn_within.new.list.items = search rules in
    omega (arith, ap length c.drop_empty.ensures.same, longer-later c.args.later.now.items c.args.place c.index_mut.result.now c.turn_within.new.list (omega (arith, n, c.requires.inside)) c.index_mut.ensures.value 1 (omega (arith, a, b, c.turn_within.ensures.longer)))

pub returns-clause-shorter : goal.returns-clause-shorter
returns-clause-shorter c = λ z.
    let n : vec_len c.args.later.now ≡ length c.args.later.now.items = search rules in
    let a : vec_len c.index_mut.result.now ≡ length c.index_mut.result.now.items = search rules in
    let b : vec_len c.turn_within.new.list ≡ length c.turn_within.new.list.items = search rules in
    omega (arith, ap length c.drop_empty.ensures.same, longer-later c.args.later.now.items c.args.place c.index_mut.result.now c.turn_within.new.list (omega (arith, n, c.requires.inside)) c.index_mut.ensures.value 0 (omega (arith, a, b, c.turn_within.ensures.none z)))
