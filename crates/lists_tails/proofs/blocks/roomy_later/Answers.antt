use Rattle.std.proofs.Common.{arith, rules, ◌≡◌, ◌+◌, true, false, length, vec_len, refl, inl, inr, sym, ◌∙◌, ap}
use Rattle.lists_tails.specs.Blocks.{starts_up_to}
use Rattle.lists_tails.proofs.Blocked.{Block, joined-same, placed-same, joined-divided, filled-divided, placed-divided, divided-two}
use Rattle.lists_tails.proofs.blocks.roomy_later.Goals as goal

pub returns-then-len-lt-BLOCK-clause-same : goal.returns-then-len-lt-BLOCK-clause-same
returns-then-len-lt-BLOCK-clause-same c =
    let n : vec_len c.args.later.now ≡ length c.args.later.now.items = search rules in
    joined-same c.args.later.now.items c.args.place c.index_mut.result.now c.grow.new.block (omega (arith, n, c.requires.inside)) c.index_mut.ensures.value c.grow.ensures.same

pub returns-then-len-lt-BLOCK-clause-placed : goal.returns-then-len-lt-BLOCK-clause-placed
returns-then-len-lt-BLOCK-clause-placed c =
    let n : vec_len c.args.later.now ≡ length c.args.later.now.items = search rules in
    placed-same c.args.doc.0 c.args.later.now.items c.args.place (c.args.place + 1) c.index_mut.result.now c.grow.new.block (omega (arith, n, c.requires.inside)) c.index_mut.ensures.value c.grow.ensures.same

pub returns-then-starts-clause-same : goal.returns-then-starts-clause-same
returns-then-starts-clause-same c =
    let n : vec_len c.args.later.now ≡ length c.args.later.now.items = search rules in
    joined-divided c.args.later.now.items c.divide.new.later.items c.args.place c.index.result.now (omega (arith, n, c.requires.inside)) c.index.ensures c.divide.ensures.divided

pub returns-then-starts-clause-filled : goal.returns-then-starts-clause-filled
returns-then-starts-clause-filled c =
    let n : vec_len c.args.later.now ≡ length c.args.later.now.items = search rules in
    filled-divided c.args.later.now.items c.divide.new.later.items c.args.place (omega (arith, n, c.requires.inside)) c.divide.ensures.divided

pub returns-then-starts-clause-placed : goal.returns-then-starts-clause-placed
returns-then-starts-clause-placed c =
    let n : vec_len c.args.later.now ≡ length c.args.later.now.items = search rules in
    placed-divided c.args.doc.0 c.args.later.now.items c.divide.new.later.items c.args.place (c.args.place + 1 + 1) true (omega (arith, n, c.requires.inside)) c.divide.ensures.divided
    (ap (λ (w : Block). starts_up_to c.args.doc.0 w.items) (divided-two c.args.later.now.items c.divide.new.later.items c.args.place c.index-5.result.now (omega (arith, n, c.requires.inside)) c.divide.ensures.divided c.index-5.ensures)
    ∙ ap (starts_up_to c.args.doc.0) (sym c.deref-3.ensures.value) ∙ sym c.starts.ensures ∙ c.if-starts.true)
    (inl (refl, omega arith))

pub returns-clause-same : goal.returns-clause-same
returns-clause-same c =
    let n : vec_len c.args.later.now ≡ length c.args.later.now.items = search rules in
    joined-divided c.args.later.now.items c.divide.new.later.items c.args.place c.index.result.now (omega (arith, n, c.requires.inside)) c.index.ensures c.divide.ensures.divided

pub returns-clause-filled : goal.returns-clause-filled
returns-clause-filled c =
    let n : vec_len c.args.later.now ≡ length c.args.later.now.items = search rules in
    filled-divided c.args.later.now.items c.divide.new.later.items c.args.place (omega (arith, n, c.requires.inside)) c.divide.ensures.divided

pub returns-clause-placed : goal.returns-clause-placed
returns-clause-placed c =
    let n : vec_len c.args.later.now ≡ length c.args.later.now.items = search rules in
    placed-divided c.args.doc.0 c.args.later.now.items c.divide.new.later.items c.args.place (c.args.place + 1) false (omega (arith, n, c.requires.inside)) c.divide.ensures.divided
    (ap (λ (w : Block). starts_up_to c.args.doc.0 w.items) (divided-two c.args.later.now.items c.divide.new.later.items c.args.place c.index-5.result.now (omega (arith, n, c.requires.inside)) c.divide.ensures.divided c.index-5.ensures)
    ∙ ap (starts_up_to c.args.doc.0) (sym c.deref-3.ensures.value) ∙ sym c.starts.ensures ∙ c.if-starts.false)
    (inr (refl, refl))
