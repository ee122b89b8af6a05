use Rattle.std.proofs.Common.{arith, ap, ◌∙◌, refl, List, [], ◌∷◌, ◌++◌, ℕ, ◌≡◌, ◌+◌, ◌-◌, ◌<◌, length, length-set, take}
use Rattle.std.specs.Prelude.{slice_index}
use Rattle.std.proofs.lemmas.Grind.{get_or_default_zero}
use Rattle.std.proofs.lemmas.List.{take_more, take_more_set, take_all, get_or-set_other}
use Rattle.plans_guarantee.specs.Lefts.{cost_to_end}
use Rattle.plans_guarantee.proofs.Settling.{settled_first, settled_more}
use Rattle.plans_guarantee.proofs.steps.settle.Goals as goal

pub loop-k-init : goal.loop-k-init
loop-k-init c = record {
  some = omega arith;
  long = refl;
  lows = λ m l. refl;
  settled = settled_first c.args.table.now c.args.factor c.push.new.self.items (take 1 c.in_ok-lefts.lefts.items) (c.in_ok-push.ensures.items ∙ ap (λ (l : List ℕ). l ++ 0 ∷ []) c.in_ok-pi.ensures.items)
      (take_more c.in_ok-lefts.lefts.items 0 0 (omega (arith, c.in_ok-lefts.ensures.long, c.boundaries-boundaries.ensures.many, ap length c.boundaries-boundaries.ensures.value)) ∙ ap (λ n. n ∷ []) c.in_ok-lefts.ensures.starts);
  costs = c.new-window.ensures.over (cost_to_end c.args.table.now c.push.new.self.items);
  next = c.new-window.ensures.next;
  from = omega (arith, c.new-window.ensures.from, c.in_ok-lefts.ensures.starts);
}

pub loop-k-preserved : goal.loop-k-preserved
loop-k-preserved c =
    let l : c.loop-k.k < length c.args.table.now.boundaries = omega (arith, c.loop-k-test.true, ap length c.boundaries-boundaries.ensures.value) in
    let m : c.loop-k.k < length c.loop-k.lefts.items = omega (arith, l, c.loop-k.invariant.long, c.in_ok-lefts.ensures.long) in
    let low : c.index-low.result.now ≡ slice_index c.in_ok-lefts.lefts.items c.loop-k.k = omega (arith, c.index-low.ensures, get_or_default_zero c.loop-k.lefts.items c.loop-k.k c.index-low.result.now m, c.loop-k.invariant.lows c.loop-k.k (omega arith)) in
    let here : c.loop-k.k + 1 - 1 ≡ c.loop-k.k = omega arith in
    record {
      some = omega arith;
      long = omega (arith, length-set c.loop-k.lefts.items c.loop-k.k c.in_ok-left.left, c.loop-k.invariant.long);
      lows = λ n a. get_or-set_other c.loop-k.lefts.items c.loop-k.k n c.in_ok-left.left 0 (omega arith) ∙ c.loop-k.invariant.lows n (omega arith);
      settled = rw (c.in_ok-left.ensures.number, take_more_set c.loop-k.lefts.items c.loop-k.k c.in_ok-left.left m)
          (settled_more c.args.table.now c.args.factor c.loop-k.pi.items (take c.loop-k.k c.loop-k.lefts.items) c.loop-k.k c.index-low.result.now c.in_ok-left.left c.loop-k.invariant.some c.loop-k.invariant.settled
          (rw low (c.in_ok-lefts.ensures.each c.loop-k.k c.loop-k.invariant.some l)) c.in_ok-left.ensures.cheapest c.in_ok-left.ensures.small);
      costs = c.in_ok-left.ensures.costs;
      next = omega (arith, c.in_ok-left.ensures.next);
      from = rw here (c.in_ok-left.ensures.from ∙ low);
    }

pub returns : goal.returns
returns c =
    let n : c.loop-k.k ≡ length c.args.table.now.boundaries = omega (arith, c.loop-k-test.false, c.loop-k.auto.k-end, c.boundaries-boundaries.ensures.many, ap length c.boundaries-boundaries.ensures.value) in
    rw (← n, ← take_all c.loop-k.k c.loop-k.lefts.items (omega (arith, n, c.loop-k.invariant.long, c.in_ok-lefts.ensures.long))) c.loop-k.invariant.settled
