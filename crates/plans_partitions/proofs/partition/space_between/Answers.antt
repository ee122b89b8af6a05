use Rattle.std.proofs.Common.{arith, ◌+◌, ◌∙◌, sym}
use Rattle.plans_partitions.proofs.Cuts.{some_inside, space_step, space_end}
use Rattle.plans_partitions.proofs.partition.space_between.Goals as goal

pub loop-k-init : goal.loop-k-init
loop-k-init c = record { inside = some_inside c.args.table.now.boundaries c.args.cuts.now c.requires.some c.requires.inside; here = sym c.requires.first; left = λ list horizon t. omega arith; bound = omega arith }

pub loop-k-preserved : goal.loop-k-preserved
loop-k-preserved c = record {
  inside = c.next_place-next.ensures.inside;
  here = c.next_place-next.ensures.there;
  left = λ list horizon t. space_step list c.args.cuts.now (c.loop-k.k + 1) _ c.loop-k.total c.from-total.result _ (omega arith)
      (c.from-total.ensures ∙ (rw (c.loop-k.invariant.here, c.next_place-next.ensures.there) at (c.size.ensures.count list horizon t))) (c.loop-k.invariant.left list horizon t);
  bound = omega (arith, c.loop-k.invariant.bound, c.size.ensures.bound, c.from-total.ensures);
}

pub returns-clause-value : goal.returns-clause-value
returns-clause-value c list horizon t = space_end list c.args.cuts.now (c.loop-k.k + 1) c.loop-k.total _ _ (omega arith) (c.loop-k.invariant.left list horizon t)
