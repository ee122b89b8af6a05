use Rattle.std.proofs.Common.{arith, rules, ◌≡◌, ◌<◌, ◌^◌, length, vec_len, All, take, ◌∙◌, ap, sym, subst}
use Rattle.std.proofs.lemmas.List.{take_all}
use Rattle.std.proofs.lemmas.List.Sorted.{All-permutation, length_permutation}
use Rattle.lists_postings.specs.ListsOf.{IsListOf}
use Rattle.lists_tails.specs.declared.document.Turn.{Turn}
use Rattle.lists_tails.specs.Acts.{frequency_after, open_after}
use Rattle.lists_tails.specs.Gathered.{acts_of}
use Rattle.lists_tails.specs.Tails.{tail_of}
use Rattle.lists_tails.specs.Turns.{IsTurned}
use Rattle.lists_tails.specs.Weights.{AreWeights, weight_of}
use Rattle.lists_tails.proofs.Followed.{list-same}
use Rattle.lists_tails.proofs.Gathered.{gather-more, sorted-order, sorted-frequency}
use Rattle.lists_tails.proofs.tails.Tails.gather.Goals as goal

pub turn-requires-clause-old : goal.turn-requires-clause-old
turn-requires-clause-old c =
    let all : All (λ (x : Turn). AreWeights x.weights.items) c.sort_by_doc.new.turns.items = All-permutation (λ (x : Turn). AreWeights x.weights.items) c.args.turns.now.items c.sort_by_doc.new.turns.items c.sort_by_doc.ensures.permutation c.requires.ascending in
    (rw c.deref.ensures.value at c.open_before-old.ensures.ascending) all

pub turn-requires-clause-new : goal.turn-requires-clause-new
turn-requires-clause-new c =
    let n : vec_len c.sort_by_doc.new.turns ≡ length c.sort_by_doc.new.turns.items = search rules in
    let all : All (λ (x : Turn). AreWeights x.weights.items) c.sort_by_doc.new.turns.items = All-permutation (λ (x : Turn). AreWeights x.weights.items) c.args.turns.now.items c.sort_by_doc.new.turns.items c.sort_by_doc.ensures.permutation c.requires.ascending in
    subst AreWeights (sym c.deref-in-loop-i-2.ensures.value) (subst (λ (x : Turn). AreWeights x.weights.items) (sym c.index-turn.ensures) (all c.loop-i.i c.index-turn.result.now (omega (arith, n, c.loop-i-test.true, c.len-i-end.ensures))))

pub loop-i-preserved : goal.loop-i-preserved
loop-i-preserved c = record {
  short = λ w. omega (arith, ap length (c.reserve_turn.ensures.same w), c.turn.ensures.longer w, c.loop-i.invariant.short w);
  lists = λ w.
      let n : vec_len c.sort_by_doc.new.turns ≡ length c.sort_by_doc.new.turns.items = search rules in
      let l : c.loop-i.i < length c.sort_by_doc.new.turns.items = omega (arith, n, c.loop-i-test.true, c.len-i-end.ensures) in
      let x = c.index-turn.result.now in
      let held : weight_of w c.open_before-old.result.now ≡ open_after (acts_of (take c.loop-i.i c.sort_by_doc.new.turns.items)) w x.doc.0 =
      (rw c.deref.ensures.value at c.open_before-old.ensures.open) x c.in_ok-sort_by_doc.ensures.sorted w ∙ ap (λ (z : Turn). open_after (acts_of (take c.loop-i.i c.sort_by_doc.new.turns.items)) w z.doc.0) (sym c.index-turn.ensures) in
      gather-more c.sort_by_doc.new.turns.items c.loop-i.i x w (weight_of w c.open_before-old.result.now) (tail_of c.loop-i.tails w) (tail_of c.reserve_turn.new.self w) (tail_of c.turn.new.self w) l c.index-turn.ensures
      (sorted-order c.args.turns.now.items c.sort_by_doc.new.turns.items c.sort_by_doc.ensures.stable c.requires.in_order) held (c.reserve_turn.ensures.same w)
      (subst (λ z. IsTurned x.doc.0 x.at.seconds (weight_of w c.open_before-old.result.now) (weight_of w z) (tail_of c.reserve_turn.new.self w) (tail_of c.turn.new.self w)) c.deref-in-loop-i-2.ensures.value (c.turn.ensures.turned w))
      (c.loop-i.invariant.lists w);
}

pub returns-clause-tails : goal.returns-clause-tails
returns-clause-tails c = λ w m.
    let n : vec_len c.sort_by_doc.new.turns ≡ length c.sort_by_doc.new.turns.items = search rules in
    list-same (frequency_after (acts_of c.sort_by_doc.new.turns.items) w) (frequency_after (acts_of c.args.turns.now.items) w) 0 (2 ^ 40) (tail_of c.loop-i.tails w) (sorted-frequency c.args.turns.now.items c.sort_by_doc.new.turns.items c.sort_by_doc.ensures.stable w)
    (subst (λ z. IsListOf (frequency_after (acts_of z) w) 0 (2 ^ 40) (tail_of c.loop-i.tails w)) (take_all c.loop-i.i c.sort_by_doc.new.turns.items (omega (arith, n, c.loop-i-test.false, c.len-i-end.ensures))) (c.loop-i.invariant.lists w))

pub returns-clause-short : goal.returns-clause-short
returns-clause-short c = λ w.
    let n : vec_len c.sort_by_doc.new.turns ≡ length c.sort_by_doc.new.turns.items = search rules in
    omega (arith, n, c.loop-i.invariant.short w, c.loop-i-test.false, c.len-i-end.ensures, length_permutation c.args.turns.now.items c.sort_by_doc.new.turns.items c.sort_by_doc.ensures.permutation)
