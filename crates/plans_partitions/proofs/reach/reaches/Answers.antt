use Rattle.std.proofs.Common.{arith, ◌<◌, ap, sym, ◌∙◌, ◌≡◌, ◌+◌, ◌++◌, ◌∷◌, [], ℕ, List, length, slice_index}
use Rattle.plans_partitions.specs.Counts.{alive_in}
use Rattle.plans_partitions.proofs.Reaching.{none_yet, reaches_first, reaches_next, last_reach}
use Rattle.plans_partitions.proofs.reach.reaches.Goals as goal

pub loop-k-init : goal.loop-k-init
loop-k-init c = let made : c.push.new.self.items ≡ 0 ∷ [] = c.in_ok-push.ensures.items ∙ ap (λ (l : List ℕ). l ++ 0 ∷ []) c.in_ok-lows.ensures.items in record {
  alive = c.new-window.ensures.over (alive_in c.args.table.now);
  next = c.new-window.ensures.next;
  last = ap (λ (l : List ℕ). slice_index l 0) made ∙ sym c.new-window.ensures.from;
  reaches = reaches_first c.args.table.now c.args.factor c.push.new.self.items made;
}

pub reach_to-requires : goal.reach_to-requires
reach_to-requires c =
    let inside : c.loop-k.k + 1 < length c.args.table.now.boundaries = omega (arith, ap length c.boundaries-boundaries.ensures.value) in
    let yet = none_yet c.args.table.now c.args.factor c.loop-k.lows.items c.loop-k.k c.loop-k.window.from c.boundaries-boundaries.ensures.ordered inside c.loop-k.invariant.last c.loop-k.invariant.reaches in
    record {
      ordered = c.boundaries-boundaries.ensures.ordered;
      inside = inside;
      alive = c.in_ok-push-2.ensures.over (alive_in c.args.table.now) (rw c.loop-k.invariant.next (c.from.ensures ∙ c.alive.ensures.value)) c.loop-k.invariant.alive;
      next = omega (arith, c.in_ok-push-2.ensures.next, c.loop-k.invariant.next);
      before = omega (arith, c.in_ok-push-2.ensures.from, yet.0);
      none = rw c.in_ok-push-2.ensures.from yet.1;
    }

pub loop-k-preserved : goal.loop-k-preserved
loop-k-preserved c = record {
  alive = c.reach_to.ensures.alive;
  next = c.reach_to.ensures.next;
  last = last_reach c.args.table.now c.args.factor c.loop-k.lows.items c.push-in-loop-k-2.new.self.items (c.loop-k.k + 1) c.from-in-loop-k.result c.in_ok-push-3.ensures.items c.loop-k.invariant.reaches ∙ c.from-in-loop-k.ensures;
  reaches = reaches_next c.args.table.now c.args.factor c.loop-k.lows.items c.push-in-loop-k-2.new.self.items c.loop-k.k c.from-in-loop-k.result c.in_ok-push-3.ensures.items
      (omega (arith, c.loop-k.invariant.last, c.in_ok-push-2.ensures.from, c.reach_to.ensures.on, c.from-in-loop-k.ensures)) (rw c.from-in-loop-k.ensures c.reach_to.ensures.reach) c.loop-k.invariant.reaches;
}

pub returns : goal.returns
returns c = let n : length c.args.table.now.boundaries ≡ c.loop-k.k + 1 = omega (arith, c.loop-k.auto.k-end, c.boundaries-boundaries.ensures.many, ap length c.boundaries-boundaries.ensures.value) in rw n c.loop-k.invariant.reaches
