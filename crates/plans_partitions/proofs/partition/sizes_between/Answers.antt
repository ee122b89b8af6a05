use Rattle.std.proofs.Common.{arith, ℕ, List, length, ◌+◌, ◌++◌, drop, ap, sym, slice_index, append_assoc, append-nil, ◌∙◌}
use Rattle.std.proofs.lemmas.List.{length_push, drop_more, drop_all}
use Rattle.plans_partitions.specs.Partitions.{sizes}
use Rattle.plans_partitions.proofs.Cuts.{some_inside}
use Rattle.plans_partitions.proofs.partition.sizes_between.Goals as goal

pub loop-k-init : goal.loop-k-init
loop-k-init c = record {
  many = ap length c.in_ok-sizes.ensures.items;
  inside = some_inside c.args.table.now.boundaries c.args.cuts.now c.requires.some c.requires.inside;
  here = sym c.requires.first;
  left = λ list horizon t. ap (λ (front : List ℕ). front ++ sizes list (slice_index c.args.cuts.now 0) (drop 1 c.args.cuts.now)) c.in_ok-sizes.ensures.items;
}

pub loop-k-preserved : goal.loop-k-preserved
loop-k-preserved c = record {
  many = omega (arith, ap length c.in_ok-push.ensures.items, length_push c.loop-k.sizes.items c.size.result, c.loop-k.invariant.many);
  inside = c.next_place-next.ensures.inside;
  here = c.next_place-next.ensures.there;
  left = λ list horizon t. rw (c.in_ok-push.ensures.items, append_assoc, rw (c.loop-k.invariant.here, c.next_place-next.ensures.there) at (c.size.ensures.count list horizon t))
      (rw (drop_more c.args.cuts.now (c.loop-k.k + 1) 0 (omega arith)) at (c.loop-k.invariant.left list horizon t));
}

pub returns : goal.returns
returns c = record { many = omega (arith, c.loop-k.invariant.many, c.requires.some); value = λ list horizon t. sym (append-nil c.loop-k.sizes.items) ∙ (rw (drop_all (c.loop-k.k + 1) c.args.cuts.now (omega arith)) at (c.loop-k.invariant.left list horizon t)) }
