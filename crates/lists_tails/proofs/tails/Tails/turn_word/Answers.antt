use Rattle.std.proofs.Common.{arith, rules, ◌≡◌, length, vec_len}
use Rattle.lists_tails.proofs.Holding.{turned-at}
use Rattle.lists_tails.proofs.tails.Tails.turn_word.Goals as goal

pub returns-clause-turned : goal.returns-clause-turned
returns-clause-turned c =
    let n : vec_len c.self.inside.tails ≡ length c.self.inside.tails.items = search rules in
    turned-at c.args.doc.0 c.args.at.seconds c.args.old c.args.new c.args.self.now c.self.inside.tails.items c.args.word.number c.index_mut.result.now c.turn.new.self c.self.view_is (omega (arith, n, c.if-place-len.false, c.len.ensures)) c.index_mut.ensures.value c.turn.ensures.turned
