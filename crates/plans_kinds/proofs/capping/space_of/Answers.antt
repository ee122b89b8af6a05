use Rattle.std.proofs.Common.{arith, ◌+◌, ◌∙◌}
use Rattle.plans_partitions.proofs.Cuts.{space_step, space_end}
use Rattle.plans_partitions.proofs.Places.{not_falling}
use Rattle.plans_kinds.proofs.capping.space_of.Goals as goal

pub size_of-requires-clause-first : goal.size_of-requires-clause-first
size_of-requires-clause-first c = omega (arith, c.requires.first, not_falling c.args.cuts.now c.requires.ascending 0 c.loop-k.k (omega arith) (omega arith))

pub loop-k-preserved : goal.loop-k-preserved
loop-k-preserved c = record {
  left = λ list horizon t. space_step list c.args.cuts.now (c.loop-k.k + 1) _ c.loop-k.total _ _ (omega arith) (c.from-total.ensures ∙ c.size_of.ensures.count list horizon t) (c.loop-k.invariant.left list horizon t);
  bound = omega (arith, c.loop-k.invariant.bound, c.size_of.ensures.bound, c.from-total.ensures);
}

pub returns : goal.returns
returns c list horizon t = space_end list c.args.cuts.now (c.loop-k.k + 1) c.loop-k.total _ _ (omega arith) (c.loop-k.invariant.left list horizon t)
