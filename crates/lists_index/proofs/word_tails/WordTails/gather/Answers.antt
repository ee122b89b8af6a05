use Rattle.std.proofs.Common.{rules, ◌≡◌, length, arith, vec_len}
use Rattle.std.proofs.lemmas.List.Sorted.{length_permutation}
use Rattle.lists_index.proofs.word_tails.WordTails.gather.Goals as goal

pub invariant_of-result : goal.invariant_of-result
invariant_of-result c =
    let n : vec_len c.gather.new.turns ≡ length c.gather.new.turns.items = search rules in
    let e : c.len.result ≡ length c.args.turns.now.items = omega (arith, n, c.len.ensures, length_permutation c.args.turns.now.items c.gather.new.turns.items c.gather.ensures.permutation) in
    (omega (arith, e, c.requires.few), λ w. omega (arith, e, c.in_ok-tails.ensures.short w))
