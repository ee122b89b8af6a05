use Rattle.std.proofs.Common.{arith, rules, ap, vec_len, ◌≡◌, ◌+◌, ◌-◌, ◌<◌, ◌≤◌, length, refl, sym, subst}
use Rattle.lists_postings.specs.Lists.{IsList}
use Rattle.lists_tails.specs.Blocks.{IsTurnedWithin}
use Rattle.lists_tails.specs.Steps.{IsPlace}
use Rattle.lists_tails.proofs.Within.{close-within, both-within, again-within, leave-within, never-within}
use Rattle.lists_tails.proofs.turn.pass.Goals as goal

pub returns-then-place-eq0-clause-turned : goal.returns-then-place-eq0-clause-turned
returns-then-place-eq0-clause-turned c =
    let p : IsList c.args.list.now.items → IsPlace c.args.doc.0 c.args.list.now.items c.place_of-place.result = rw c.as_slice.ensures.value at c.place_of-place.ensures.place in
    never-within c.args.doc.0 c.args.at.seconds c.args.old c.args.new c.args.list.now.items c.place_of-place.result c.if-place-eq0.true p c.args.at.before_now c.requires.some

pub returns-then-x-at-clause-turned : goal.returns-then-x-at-clause-turned
returns-then-x-at-clause-turned c =
    let p : IsList c.args.list.now.items → IsPlace c.args.doc.0 c.args.list.now.items c.place_of-place.result = rw c.as_slice.ensures.value at c.place_of-place.ensures.place in
    let l : c.place_of-place.result ≤ length c.args.list.now.items = rw c.as_slice.ensures.value at c.place_of-place.ensures.inside in
    let k : c.place_of-place.result ≡ c.place_of-place.result - 1 + 1 = omega (arith, c.if-place-eq0.false) in
    let m : c.place_of-place.result - 1 < length c.args.list.now.items = omega (arith, k, l) in
    subst (λ z. IsTurnedWithin c.args.doc.0 c.args.at.seconds c.args.old z c.args.list.now.items c.write.new.list.items) (sym (c.in_default.ensures.none.0 refl))
    (close-within c.args.doc.0 c.args.at.seconds c.args.old c.args.list.now.items c.write.new.list.items (c.place_of-place.result - 1) c.place_of-place.result c.index.result.now c.closed.result k m c.index.ensures p c.args.at.before_now c.requires.some c.closed.ensures c.write.ensures.items)

pub returns-in_default-clause-turned : goal.returns-in_default-clause-turned
returns-in_default-clause-turned c =
    let p : IsList c.args.list.now.items → IsPlace c.args.doc.0 c.args.list.now.items c.place_of-place.result = rw c.as_slice.ensures.value at c.place_of-place.ensures.place in
    let l : c.place_of-place.result ≤ length c.args.list.now.items = rw c.as_slice.ensures.value at c.place_of-place.ensures.inside in
    let k : c.place_of-place.result ≡ c.place_of-place.result - 1 + 1 = omega (arith, c.if-place-eq0.false) in
    let m : c.place_of-place.result - 1 < length c.args.list.now.items = omega (arith, k, l) in
    subst (λ z. IsTurnedWithin c.args.doc.0 c.args.at.seconds c.args.old z c.args.list.now.items c.remove.new.self.items) (sym (c.in_default.ensures.none.0 refl))
    (leave-within c.args.doc.0 c.args.at.seconds c.args.old c.args.list.now.items c.remove.new.self.items (c.place_of-place.result - 1) c.place_of-place.result c.index.result.now k m c.index.ensures p c.args.at.before_now c.requires.some c.if-x-at.false c.remove.ensures.items)

pub returns-then-x-at-2-clause-turned : goal.returns-then-x-at-2-clause-turned
returns-then-x-at-2-clause-turned c =
    let p : IsList c.args.list.now.items → IsPlace c.args.doc.0 c.args.list.now.items c.place_of-place.result = rw c.as_slice.ensures.value at c.place_of-place.ensures.place in
    let l : c.place_of-place.result ≤ length c.args.list.now.items = rw c.as_slice.ensures.value at c.place_of-place.ensures.inside in
    let k : c.place_of-place.result ≡ c.place_of-place.result - 1 + 1 = omega (arith, c.if-place-eq0.false) in
    let m : c.place_of-place.result - 1 < length c.args.list.now.items = omega (arith, k, l) in
    let n : vec_len c.put.new.list ≡ length c.put.new.list.items = search rules in
    let o : vec_len c.args.list.now ≡ length c.args.list.now.items = search rules in
    both-within c.args.doc.0 c.args.at.seconds c.args.old c.args.new c.args.list.now.items c.write-then-x-at-2.new.list.items (c.place_of-place.result - 1) c.place_of-place.result c.index.result.now c.closed-then-x-at-2.result c.in-Some.q k m c.index.ensures p c.args.at.before_now c.requires.some c.requires.differ c.closed-then-x-at-2.ensures c.in-Some.ensures.some (rw c.put.ensures.items at c.write-then-x-at-2.ensures.items) (omega (arith, m, n, o, c.put.ensures.len, ap length c.put.ensures.items))

pub returns-clause-turned : goal.returns-clause-turned
returns-clause-turned c =
    let p : IsList c.args.list.now.items → IsPlace c.args.doc.0 c.args.list.now.items c.place_of-place.result = rw c.as_slice.ensures.value at c.place_of-place.ensures.place in
    let l : c.place_of-place.result ≤ length c.args.list.now.items = rw c.as_slice.ensures.value at c.place_of-place.ensures.inside in
    let k : c.place_of-place.result ≡ c.place_of-place.result - 1 + 1 = omega (arith, c.if-place-eq0.false) in
    let m : c.place_of-place.result - 1 < length c.args.list.now.items = omega (arith, k, l) in
    again-within c.args.doc.0 c.args.at.seconds c.args.old c.args.new c.args.list.now.items c.write-2.new.list.items (c.place_of-place.result - 1) c.place_of-place.result c.index.result.now c.in-Some.q k m c.index.ensures p c.args.at.before_now c.requires.some c.requires.differ c.if-x-at-2.false c.in-Some.ensures.some c.write-2.ensures.items
